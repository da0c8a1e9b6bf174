-- How an evaluation ended, as it is printed.
use Rattle.std.specs.Prelude.{ℕ, List, [], ◌∷◌, Some, None, codes, decimal}
use Rattle.aml_meaning.specs.Causes.{aml_cause_text}
use Rattle.aml_meaning.specs.declared.error.AmlError.{AmlError}
use Rattle.acpi_text.specs.Text.{joined}
use Rattle.acpi_text.specs.Values.{value_text}
use Rattle.acpi_text.specs.Verdicts.{verdict_line}
use Rattle.acpi_text.specs.declared.verdict.VerdictLine.TheVariants.{Unreadable}
use Rattle.aml_values.specs.Values.{Value}
use Rattle.aml_values.specs.Views.{view}
use Rattle.aml_objects.specs.Entries.{Entries}
use Rattle.aml_tree.specs.declared.fault.Refusal.{Refusal}
use Rattle.aml_meaning.specs.declared.outcome.Outcome.{Outcome}
use Rattle.aml_meaning.specs.declared.outcome.Outcome.TheVariants as outcome

-- the line of a value that a method gave
unfoldable pub result_line : Entries → Value → List ℕ
result_line entries value = joined (codes "result " ∷ value_text entries value ∷ codes "\n" ∷ [])

-- the line of an AML error: its table, place, number and name
unfoldable pub error_line : AmlError → List ℕ
error_line error =
    joined (codes "error " ∷ decimal error.table ∷ codes " " ∷ decimal error.at ∷ codes " "
    ∷ aml_cause_text error.cause ∷ codes "\n" ∷ [])

-- the line of an outcome
abbrev pub outcome_line : Entries → Outcome → List ℕ
outcome_line entries (outcome.Done (Some value)) = result_line entries (view value)
outcome_line entries (outcome.Done None) = codes "result none\n"
outcome_line entries (outcome.AmlError error) = error_line error
outcome_line entries outcome.OutOfSteps = codes "out of steps\n"

-- the line of a method whose body cannot be read
abbrev pub refusal_line : List ℕ → ℕ → Refusal → List ℕ
refusal_line path table refusal = verdict_line path (Unreadable table refusal)
