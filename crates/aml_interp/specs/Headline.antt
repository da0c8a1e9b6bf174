-- The headline: what the verifier accepts is evaluated without an error, within the steps that its
-- verdict says, and just as the definition says.
use Rattle.std.specs.Prelude.{◌≡◌, ℕ, List, Option, Some, Result, Ok, true}
use Rattle.aml_bodies.specs.Methods.{Around}
use Rattle.aml_contents.specs.FirstContents.{first_kinds}
use Rattle.aml_integers.specs.Known.{marked}
use Rattle.aml_interp.specs.Answers.{Answers}
use Rattle.aml_judged.specs.Judged as judged
use Rattle.aml_judged.specs.Safe.{FitAll, FitNames, FitScript, FitsYield}
use Rattle.aml_known.specs.Views.{accepted_of}
use Rattle.aml_known.specs.declared.accepted.Accepted.{Accepted}
use Rattle.aml_literal_laws.specs.Laws.{TablesAreBytes}
use Rattle.aml_machine.specs.Views.{value_of}
use Rattle.aml_meaning.specs.Methods.{setting_in}
use Rattle.aml_meaning.specs.Runs.{HasRefused}
use Rattle.aml_meaning.specs.State.{Names, Out, Goes, Halts, NoAnswer, Spent}
use Rattle.aml_meaning.specs.Whole.{before, evaluated}
use Rattle.aml_meaning.specs.declared.outcome.Outcome.{Outcome}
use Rattle.aml_meaning.specs.declared.outcome.Outcome.TheVariants as outcome
use Rattle.aml_methods.specs.Judgings.{Told}
use Rattle.aml_namespace.specs.Load.{Shown}
use Rattle.aml_namespace.specs.Names.{IsBodyOf, method_at}
use Rattle.aml_namespace.specs.Shows.{shown}
use Rattle.aml_objects.specs.Widths.{bits_of}
use Rattle.aml_objects.specs.declared.object.Method.{Method}
use Rattle.aml_operators.specs.Tree.{Tree, trees}
use Rattle.aml_paths.specs.declared.memory.NoMemory.{NoMemory}
use Rattle.aml_regions.specs.Events.{Event, Log}
use Rattle.aml_scene.specs.Outcomes.{Tells}
use Rattle.aml_shapes.specs.Numbers.{numbered}
use Rattle.aml_values.specs.Values.{Value}
use Rattle.aml_verify.specs.Said.{verdict_at}
use Rattle.aml_verify.specs.Verdicts.{IsChecked}
use Rattle.aml_verify.specs.declared.checked.Checked.{Checked}
use Rattle.aml_verify.specs.declared.verdict.Verdict.TheVariants as verdict

-- a namespace that was loaded from tables whose bytes are bytes, and a method of it that the
-- verifier accepted
pub record IsAccepted (told : Told) (c : Checked) (k : ℕ) (a : Accepted) : Type 0 where
  pub checked : IsChecked told c
  pub said : verdict_at c.verdicts.items k ≡ Some (verdict.Accepted a)
  pub bytes : TablesAreBytes (shown c.namespace.now).tables

-- of a method that is accepted in a namespace
module _ (ns : Shown) (a : judged.Accepted) where
  -- arguments of its kinds, and names that hold what is of theirs
  pub record AreOfKinds (values : List Value) (held : Names) : Type 0 where
    pub arguments : FitAll (bits_of ns.width) values a.args
    pub names : FitNames (bits_of ns.width) (first_kinds ns) held

  -- answers: of reads any, and of Sleeps contents of the names' kinds
  abbrev pub AreAnswers : List Event → Type 0
  AreAnswers script = FitScript (bits_of ns.width) (first_kinds ns) script

  -- an evaluation is done, its value as the verdict says, and names hold what is of their kinds; or
  -- the answers are at an end. No error is met, and steps do not run out
  abbrev pub EndsWell : Out (Option Value) → Type 0
  EndsWell (Goes value s) =
      FitsYield (bits_of ns.width) value a.result ×
      FitNames (bits_of ns.width) (first_kinds ns) s.names
  EndsWell (Halts stop s) = ⊥
  EndsWell (NoAnswer s) = Unit {0}
  EndsWell (Spent s) = ⊥

  -- the same of an evaluator's outcome
  abbrev pub IsDoneWell : Outcome → Names → Type 0
  IsDoneWell (outcome.Done value) names =
      FitsYield (bits_of ns.width) (value_of value) a.result ×
      FitNames (bits_of ns.width) (first_kinds ns) names
  IsDoneWell (outcome.AmlError e) names = ⊥
  IsDoneWell outcome.OutOfSteps names = ⊥

-- what the kinds and the result of a verdict say, by the shapes of packages that the verifier kept
abbrev pub verdict_of : Checked → Accepted → judged.Accepted
verdict_of c a = accepted_of (numbered c.shapes) a

-- memory was wanted in a method that evaluates integers alone, with arguments and names of its
-- kinds and answers that fit: the world refused a call meanwhile, or its count of them stands at
-- its last value
abbrev pub IsRefused : Checked → ℕ → List Value → Names → Log → Log → Type 0
IsRefused c k values names log log_left =
    (told : Told) (a : Accepted) → IsAccepted told c k a →
    marked c.integers.items k ≡ true →
    AreOfKinds (shown c.namespace.now) (verdict_of c a) values names →
    AreAnswers (shown c.namespace.now) (verdict_of c a) log_left.events →
    HasRefused log.refusals log_left.refusals

pub record Headline : Type 0 where
  -- the meaning of the statements that the grammar ties to the method's bytes, with as many steps
  -- as its verdict says, ends well, whatever is answered
  pub meaning :
      (told : Told) (c : Checked) (k : ℕ) (a : Accepted) → IsAccepted told c k a →
      (m : Method) → method_at (shown c.namespace.now) k ≡ Some m →
      (ts : List Tree) → IsBodyOf (shown c.namespace.now) k m ts →
      (around : Around (shown c.namespace.now)) →
      (values : List Value) (names : Names) →
      AreOfKinds (shown c.namespace.now) (verdict_of c a) values names →
      (log : Log) (script : List Event) →
      AreAnswers (shown c.namespace.now) (verdict_of c a) script →
      EndsWell (shown c.namespace.now) (verdict_of c a)
      (evaluated (setting_in (shown c.namespace.now) around.bodies k m (trees ts)) (trees ts) values
      script (before names a.bound log))
  -- and what is answered as that meaning's is just its own, with the events that were answered:
  -- outcome, contents of names and events; after want of memory, names and events with some number
  -- of steps that is no greater
  pub exact :
      (told : Told) (c : Checked) (k : ℕ) (a : Accepted) → IsAccepted told c k a →
      (m : Method) → method_at (shown c.namespace.now) k ≡ Some m →
      (ts : List Tree) → IsBodyOf (shown c.namespace.now) k m ts →
      (around : Around (shown c.namespace.now)) →
      (values : List Value) (names : Names) →
      AreOfKinds (shown c.namespace.now) (verdict_of c a) values names →
      (log : Log) (answer : Result Outcome NoMemory) (names_left : Names) (log_left : Log) →
      AreAnswers (shown c.namespace.now) (verdict_of c a) log_left.events →
      Answers c k values names log answer names_left log_left →
      Tells answer
      (λ n. evaluated (setting_in (shown c.namespace.now) around.bodies k m (trees ts)) (trees ts)
      values log_left.events (before names n log)) a.bound names_left log_left.events
  -- so an outcome that is answered is done, its value as the verdict says, and names hold what is
  -- of their kinds
  pub answer :
      (told : Told) (c : Checked) (k : ℕ) (a : Accepted) → IsAccepted told c k a →
      (values : List Value) (names : Names) →
      AreOfKinds (shown c.namespace.now) (verdict_of c a) values names →
      (log : Log) (o : Outcome) (names_left : Names) (log_left : Log) →
      AreAnswers (shown c.namespace.now) (verdict_of c a) log_left.events →
      Answers c k values names log (Ok o) names_left log_left →
      IsDoneWell (shown c.namespace.now) (verdict_of c a) o names_left
