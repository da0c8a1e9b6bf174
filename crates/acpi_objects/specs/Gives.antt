-- What an object gives, from what names hold and the events so far.
use Rattle.std.specs.Prelude.{◌≡◌, ◌==◌, ℕ, Bool, true, false, List, [], Option, Some, None, Result, Ok, Err}
use Rattle.acpi_objects.specs.declared.given.Given.{Given}
use Rattle.acpi_objects.specs.declared.given.Given.TheVariants as given
use Rattle.aml_contents.specs.Contents.{content_at}
use Rattle.aml_interp.specs.Answers.{IsDone}
-- what is wanted of whoever asks an object
pub use Rattle.aml_interp.specs.Answers.{WereChecked}
use Rattle.aml_meaning.specs.State.{Names}
use Rattle.aml_objects.specs.declared.object.Method.{Method}
use Rattle.aml_objects.specs.declared.object.Object.{Object}
use Rattle.aml_objects.specs.declared.object.Object.TheVariants as object
use Rattle.aml_paths.specs.declared.memory.NoMemory.{NoMemory}
use Rattle.aml_regions.specs.Events.{Log}
use Rattle.aml_values.specs.Values.{Value}
use Rattle.aml_values.specs.Views.{view}
use Rattle.aml_values.specs.declared.value.Value as program_value
use Rattle.aml_verify.specs.Said.{verdict_at}
use Rattle.aml_verify.specs.declared.checked.Checked.{Checked}
use Rattle.aml_verify.specs.declared.verdict.Verdict.{Verdict}
use Rattle.aml_verify.specs.declared.verdict.Verdict.TheVariants as verdict

-- whether an object gives a value: a data name, or a method without arguments
abbrev pub gives_value : Option Object → Bool
gives_value (Some (object.Data kind)) = true
gives_value (Some (object.Method method)) = method.args == 0
gives_value o = false

-- what a name holds, if anything
abbrev pub Holds : Option Value → Given → Type 0
Holds held (given.Value v) = held ≡ Some (view v)
Holds held given.Nothing = held ≡ None
Holds held g = ⊥

-- what an evaluation gives, by its value or none
abbrev pub IsGiven : Option program_value.Value → Given → Type 0
IsGiven (Some v) g = g ≡ given.Value v
IsGiven None g = g ≡ given.Nothing

-- what an accepted method gives: its evaluation is done, without arguments and with as many steps
-- as its verdict says
pub record IsEvaluated (c : Checked) (k : ℕ) (g : Given) (names : Names) (log : Log)
    (names_left : Names) (log_left : Log) : Type 0 where
  pub value : Option program_value.Value
  pub given : IsGiven value g
  pub done : IsDone c k [] names log value names_left log_left

-- what the object with a number gives: by what is said of it, where it is a method, else what a
-- name of that number holds
abbrev pub GivesBy : Checked → ℕ → Option Verdict → Given → Names → Log → Names →
    Log → Type 0
GivesBy c k None g names log names_left log_left =
    Holds (content_at names.contents k) g × (names_left ≡ names) × (log_left ≡ log)
GivesBy c k (Some (verdict.Accepted a)) g names log names_left log_left =
    IsEvaluated c k g names log names_left log_left
GivesBy c k (Some v) g names log names_left log_left =
    (g ≡ given.Refused) × (names_left ≡ names) × (log_left ≡ log)

-- the same; nothing is said where memory is wanted
abbrev pub Gives : Checked → ℕ → Result Given NoMemory → Names → Log → Names → Log →
    Type 0
Gives c k (Ok g) names log names_left log_left =
    GivesBy c k (verdict_at c.verdicts.items k) g names log names_left log_left
Gives c k (Err e) names log names_left log_left = Unit {0}
