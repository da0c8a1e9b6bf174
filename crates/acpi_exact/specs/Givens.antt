-- What `resources` and `routing` have of accepted methods is just what their meaning is.
use Rattle.std.specs.Prelude.{◌≡◌, ℕ, List, [], ◌∷◌, Option, Some, None, Result, Ok, Err, true}
use Rattle.std.proofs.Common.{inl, inr}
use Rattle.acpi_listing.specs.Commands.{GivesOver, PrtOver}
use Rattle.acpi_exact.specs.Evals.{ComesFrom}
use Rattle.acpi_objects.specs.Gives.{IsGiven, gives_value}
use Rattle.acpi_objects.specs.declared.given.Given.{Given}
use Rattle.acpi_resources.specs.Interrupts.{Links, crs_of_links}
use Rattle.acpi_resources.specs.declared.item.Item.{Item}
use Rattle.acpi_routing.specs.Crs.{HasItemsBy, crs_of}
use Rattle.acpi_routing.specs.Links.{HaveItems}
use Rattle.acpi_routing.specs.Prt.{GivesPrt, GivesWith, devices_given}
use Rattle.acpi_routing.specs.declared.fault.LinkRefusal.{LinkRefusal}
use Rattle.acpi_routing.specs.declared.prt.Prt.{Prt}
use Rattle.acpi_verdicts.specs.Verdicts.{said_of}
use Rattle.aml_bodies.specs.Methods.{Around}
use Rattle.aml_interp.specs.FromTables.{shown_by}
use Rattle.aml_known.specs.declared.accepted.Accepted.{Accepted}
use Rattle.aml_literal_laws.specs.Laws.{first_names}
use Rattle.aml_meaning.specs.Methods.{setting_in}
use Rattle.aml_meaning.specs.State.{Names}
use Rattle.aml_meaning.specs.Whole.{before, evaluated}
use Rattle.aml_meaning.specs.declared.outcome.Outcome.TheVariants.{Done}
use Rattle.aml_methods.specs.Judgings.{Told}
use Rattle.aml_namespace.specs.Names.{IsBodyOf, method_at}
use Rattle.aml_objects.specs.Entries.{object_at}
use Rattle.aml_objects.specs.declared.object.Method.{Method}
use Rattle.aml_operators.specs.Tree.{Tree, trees}
use Rattle.aml_paths.specs.declared.scope.ObjectId.{ObjectId}
use Rattle.aml_regions.specs.Events.{Log}
use Rattle.aml_scene.specs.Outcomes.{Tells}
use Rattle.aml_values.specs.declared.value.Value as held
use Rattle.aml_verify.specs.declared.checked.Checked.{Checked}
use Rattle.aml_verify.specs.declared.verdict.Verdict.{Verdict}
use Rattle.aml_verify.specs.declared.verdict.Verdict.TheVariants as verdict

module _ (c : Checked) where
  -- what an accepted method gives is the meaning's, from what names hold and the events so far: the
  -- statements that the grammar ties to its bytes are done, with no argument and as many steps as
  -- its verdict says, where they are fed with the answers among the events until then
  pub record IsMeantFrom (k : ℕ) (a : Accepted) (g : Given) (names : Names) (log : Log)
      (names_left : Names) (log_left : Log) : Type 0 where
    pub method : Method
    pub there : method_at (shown_by c) k ≡ Some method
    pub body : List Tree
    pub read : IsBodyOf (shown_by c) k method body
    pub value : Option held.Value
    pub given : IsGiven value g
    pub tells : (around : Around (shown_by c)) →
        Tells (Ok (Done value))
        (λ n. evaluated (setting_in (shown_by c) around.bodies k method (trees body)) (trees body)
        [] log_left.events (before names n log)) a.bound names_left log_left.events

  -- the same of an object by what is said of it: only an accepted method is evaluated
  abbrev pub IsMeantBy : ℕ → Option Verdict → Given → Names → Log → Names → Log → Type 0
  IsMeantBy k (Some (verdict.Accepted a)) g names log names_left log_left =
      IsMeantFrom k a g names log names_left log_left
  IsMeantBy k said g names log names_left log_left = Unit {0}

  -- the _CRS of a link device is evaluated as the meaning says, where it has one
  abbrev pub IsMeantCrs : (device : ObjectId) (crs : Option ℕ)
      (r : Result (Option (List Item)) LinkRefusal) (names : Names) (log : Log)
      (names_left : Names) (log_left : Log) →
      HasItemsBy c device crs r names log names_left log_left → Type 0
  IsMeantCrs device (Some crs) r names log names_left log_left has =
      IsMeantBy crs (said_of c crs) has.0 names log names_left log_left
  IsMeantCrs device None r names log names_left log_left has = Unit {0}

  -- and so are those of devices, one after the other
  abbrev pub AreMeantCrs : (devices : List ObjectId) (r : Result Links LinkRefusal)
      (names : Names) (log : Log) (names_left : Names) (log_left : Log) →
      HaveItems c devices r names log names_left log_left → Type 0
  AreMeantCrs [] r names log names_left log_left have = Unit {0}
  AreMeantCrs (device ∷ devices) r names log names_left log_left (inl have) =
      IsMeantCrs device (crs_of (shown_by c) device.0) (Ok have.0) names log have.1 have.2 have.4
      × AreMeantCrs devices have.3 have.1 have.2 names_left log_left have.5
  AreMeantCrs (device ∷ devices) r names log names_left log_left (inr refused) =
      IsMeantCrs device (crs_of (shown_by c) device.0) (Err refused.0) names log names_left
      log_left refused.1

  -- an object, and behind it those of the devices that it names
  abbrev pub AreMeantWith : (k : ℕ) (g : Given) (links : Result Links LinkRefusal)
      (names : Names) (log : Log) (names_left : Names) (log_left : Log) →
      GivesWith c k g links names log names_left log_left → Type 0
  AreMeantWith k g links names log names_left log_left gives =
      IsMeantBy k (said_of c k) g names log gives.0 gives.1 ×
      AreMeantCrs (devices_given g) links gives.0 gives.1 names_left log_left gives.3

  -- the same by what comes of it
  abbrev pub AreMeantPrt : (k : ℕ) (r : Result Prt LinkRefusal) (names : Names) (log : Log)
      (names_left : Names) (log_left : Log) →
      GivesPrt c k r names log names_left log_left → Type 0
  AreMeantPrt k (Ok prt) names log names_left log_left gives =
      AreMeantWith k prt.given (Ok (crs_of_links prt.links.items)) names log names_left log_left
      gives
  AreMeantPrt k (Err refusal) names log names_left log_left gives =
      AreMeantWith k gives.0 (Err refusal) names log names_left log_left gives.1

-- what `resources` has of an object that gives a value is the meaning's, whatever the registers are
abbrev pub ResourcesAreExact : Type 0
ResourcesAreExact =
    (interfaces tables : List (List ℕ)) (told : Told) (c : Checked) →
    ComesFrom interfaces tables told c →
    (id : ℕ) → gives_value (object_at (shown_by c).entries id) ≡ true →
    (bytes : ℕ → ℕ → ℕ) (g : Given) (over : GivesOver bytes c id g) →
    IsMeantBy c id (said_of c id) g (first_names (shown_by c)) over.before over.names over.log

-- and so is what `routing` has of such an object and of the links that it names
abbrev pub RoutesAreExact : Type 0
RoutesAreExact =
    (interfaces tables : List (List ℕ)) (told : Told) (c : Checked) →
    ComesFrom interfaces tables told c →
    (id : ℕ) → gives_value (object_at (shown_by c).entries id) ≡ true →
    (bytes : ℕ → ℕ → ℕ) (r : Result Prt LinkRefusal) (over : PrtOver bytes c id r) →
    AreMeantPrt c id r (first_names (shown_by c)) over.before over.names over.log over.gives
