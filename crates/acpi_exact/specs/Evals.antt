-- What `eval` prints of an accepted method is just what its meaning is.
use Rattle.std.specs.Prelude.{◌≡◌, ◌++◌, ℕ, List, Option, Some, Ok}
use Rattle.acpi_listing.specs.Commands.{AreStill, Accepts, IsDoneOver}
use Rattle.acpi_listing.specs.Loading.{IsNamespace}
use Rattle.acpi_words.specs.Arguments.{ListsArguments}
use Rattle.acpi_verdicts.specs.Verdicts.{said_of}
use Rattle.aml_bodies.specs.Methods.{Around}
use Rattle.aml_interp.specs.FromTables.{shown_by}
use Rattle.aml_known.specs.declared.accepted.Accepted.{Accepted}
use Rattle.aml_literal_laws.specs.Laws.{TablesAreBytes, first_names}
use Rattle.aml_meaning.specs.Methods.{setting_in}
use Rattle.aml_meaning.specs.State as State
use Rattle.aml_meaning.specs.Whole.{before, evaluated}
use Rattle.aml_meaning.specs.declared.outcome.Outcome.{Outcome}
use Rattle.aml_methods.specs.Judgings.{Told}
use Rattle.aml_namespace.specs.Load.{Shown}
use Rattle.aml_namespace.specs.Names.{IsBodyOf, method_at}
use Rattle.aml_objects.specs.declared.object.Method.{Method}
use Rattle.aml_operators.specs.Tree.{Tree, trees}
use Rattle.aml_regions.specs.Events.{Event, Log}
use Rattle.aml_scene.specs.Outcomes.{Tells}
use Rattle.aml_values.specs.Values.{Value}
use Rattle.aml_verify.specs.Verdicts.{IsChecked}
use Rattle.aml_verify.specs.declared.checked.Checked.{Checked}
use Rattle.aml_verify.specs.declared.verdict.Verdict.TheVariants as verdict

-- a verified namespace is that of tables, which are made of bytes
pub record ComesFrom (interfaces tables : List (List ℕ)) (told : Told) (checked : Checked) : Type 0
  where
    pub namespace : IsNamespace interfaces tables (shown_by checked)
    pub bytes : TablesAreBytes tables
    pub verdicts : IsChecked told checked

-- `eval` was asked for an accepted method, with arguments that the text of `--args` lists and the
-- method takes
pub record IsAsked (interfaces tables : List (List ℕ)) (args : Option (List ℕ)) (told : Told)
    (checked : Checked) (id : ℕ) (m : Method) (a : Accepted) (arguments : List Value) : Type 0 where
  pub from : ComesFrom interfaces tables told checked
  pub listed : ListsArguments args arguments
  pub there : method_at (shown_by checked) id ≡ Some m
  pub said : said_of checked id ≡ Some (verdict.Accepted a)
  pub taken : Accepts checked a arguments (Ok tt)

-- an outcome and the events until then are those of the meaning of the statements that the grammar
-- ties to the method's bytes, from what names hold first, with so many steps, where it is fed with
-- the answers among these events
pub record IsMeaning (ns : Shown) (id : ℕ) (m : Method) (arguments : List Value) (steps : ℕ)
    (outcome : Outcome) (events : List Event) : Type 0 where
  pub body : List Tree
  pub read : IsBodyOf ns id m body
  pub names : State.Names
  pub log : Log
  pub still : AreStill ns log.events
  pub tells : (around : Around ns) →
      Tells (Ok outcome)
      (λ n. evaluated (setting_in ns around.bodies id m (trees body)) (trees body) arguments
      (log.events ++ events) (before (first_names ns) n log)) steps names (log.events ++ events)

-- what `eval` answers then is the meaning's, whatever the registers are
abbrev pub EvalsAreExact : Type 0
EvalsAreExact =
    (interfaces tables : List (List ℕ)) (args : Option (List ℕ)) (told : Told) (checked : Checked)
    (id : ℕ) (m : Method) (a : Accepted) (arguments : List Value) →
    IsAsked interfaces tables args told checked id m a arguments →
    (bytes : ℕ → ℕ → ℕ) (outcome : Outcome) (events : List Event) →
    IsDoneOver bytes (shown_by checked) id m arguments a.bound outcome events →
    IsMeaning (shown_by checked) id m arguments a.bound outcome events
