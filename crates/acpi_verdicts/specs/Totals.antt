-- How many methods are accepted, and how many are refused for which cause.
use Rattle.std.specs.Prelude.{◌-◌, ◌==◌, ◌++◌, ℕ, List, [], ◌∷◌, Option, Some, None, codes, count_by, decimal, length, if◌then◌else◌}
use Rattle.std.specs.List.{flat_map}
use Rattle.std.specs.Str.{bytes_eq}
use Rattle.acpi_text.specs.Text.{joined}
use Rattle.acpi_text.specs.Verdicts.{cause_text}
use Rattle.acpi_verdicts.specs.Verdicts.{methods_of, said_of}
use Rattle.aml_causes.specs.declared.cause.Cause.{Cause}
use Rattle.aml_causes.specs.declared.cause.Cause.TheVariants as cause
use Rattle.aml_paths.specs.declared.scope.ObjectId.{ObjectId}
use Rattle.aml_verify.specs.declared.checked.Checked.{Checked}
use Rattle.aml_verify.specs.declared.verdict.Verdict.{Verdict}
use Rattle.aml_verify.specs.declared.verdict.Verdict.TheVariants as verdict

-- what is said of a body that cannot be read, in place of a cause
abbrev pub unreadable : List ℕ
unreadable = codes "unreadable body"

-- why a method is refused, in a few words; nothing where it is accepted, or where nothing is said
-- of it
abbrev pub why_text : Option Verdict → List ℕ
why_text None = []
why_text (Some (verdict.Accepted accepted)) = []
why_text (Some (verdict.Refused refusal finding)) = cause_text refusal.why
why_text (Some (verdict.Unreadable table refusal)) = unreadable

-- how many methods that is said of
abbrev pub count_of : Checked → List ℕ → ℕ
count_of checked why =
    count_by (λ (id : ObjectId). bytes_eq (why_text (said_of checked id.0)) why)
    (methods_of checked)

-- how many methods there are, and how many of them are accepted and refused
unfoldable pub totals_line : ℕ → ℕ → List ℕ
totals_line count accepted =
    joined (codes "methods: " ∷ decimal count ∷ codes ", accepted: " ∷ decimal accepted
    ∷ codes ", refused: " ∷ decimal (count - accepted) ∷ codes "\n" ∷ [])

-- the line of what so many methods are refused for; none where there are none
unfoldable pub count_line : List ℕ → ℕ → List ℕ
count_line why count =
    if count == 0 then []
    else joined (codes "  " ∷ why ∷ codes ": " ∷ decimal count ∷ codes "\n" ∷ [])

-- the line of a cause
abbrev pub cause_line : Checked → Cause → List ℕ
cause_line checked why = count_line (cause_text why) (count_of checked (cause_text why))

-- the causes in their order
abbrev pub causes : List Cause
causes =
    cause.Unresolved ∷ cause.OutsideProfile ∷ cause.WrongKind ∷ cause.Unset ∷ cause.Cycle
    ∷ cause.LoopShape ∷ cause.Index ∷ cause.Divisor ∷ cause.Region ∷ cause.NoResult
    ∷ cause.BoundTooLarge ∷ cause.CalleeRefused ∷ cause.LocalName ∷ cause.Depth ∷ cause.Level
    ∷ cause.NotHeld ∷ cause.StillHeld ∷ cause.HeldDiffers ∷ []

-- how many methods are accepted and refused, and behind that how many for each cause
abbrev pub summary_text : Checked → List ℕ
summary_text checked =
    totals_line (length (methods_of checked)) (count_of checked [])
    ++ (flat_map (cause_line checked) causes ++ count_line unreadable (count_of checked unreadable))
