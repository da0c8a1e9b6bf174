-- Verdicts on methods, as they are printed.
use Rattle.std.specs.Prelude.{ℕ, List, [], ◌∷◌, ◌++◌, codes, decimal}
use Rattle.aml_causes.specs.declared.cause.Cause.{Cause}
use Rattle.aml_causes.specs.declared.cause.Cause.TheVariants as cause
use Rattle.aml_tree.specs.Causes.{tree_cause_text}
use Rattle.acpi_text.specs.Text.{joined}
use Rattle.acpi_text.specs.declared.verdict.VerdictLine.{VerdictLine}
use Rattle.acpi_text.specs.declared.verdict.VerdictLine.TheVariants.{Accepted, Refused, Unreadable}

-- the number and name of a cause
abbrev pub cause_text : Cause → List ℕ
cause_text cause.Unresolved = codes "V1 Unresolved"
cause_text cause.OutsideProfile = codes "V2 OutsideProfile"
cause_text cause.WrongKind = codes "V3 Kind"
cause_text cause.Unset = codes "V4 Unset"
cause_text cause.Cycle = codes "V5 Cycle"
cause_text cause.LoopShape = codes "V6 LoopShape"
cause_text cause.Index = codes "V7 Index"
cause_text cause.Divisor = codes "V8 Divisor"
cause_text cause.Region = codes "V9 Region"
cause_text cause.NoResult = codes "V10 NoResult"
cause_text cause.BoundTooLarge = codes "V11 BoundTooLarge"
cause_text cause.CalleeRefused = codes "V12 CalleeRefused"
cause_text cause.LocalName = codes "V13 LocalName"
cause_text cause.Depth = codes "V14 Depth"
cause_text cause.Level = codes "V15 Level"
cause_text cause.NotHeld = codes "V16 NotHeld"
cause_text cause.StillHeld = codes "V17 StillHeld"
cause_text cause.HeldDiffers = codes "V18 HeldDiffers"

-- what stands behind the path of a method that is refused: its table, and the place and the cause
unfoldable pub refused_part : ℕ → ℕ → List ℕ → List ℕ
refused_part table at cause =
    joined (codes " refused " ∷ decimal table ∷ codes " " ∷ decimal at ∷ codes " " ∷ cause
    ∷ codes "\n" ∷ [])

-- what stands behind a method's path: that it is accepted, with the most steps, or refused, also
-- since its body cannot be read
unfoldable pub verdict_part : VerdictLine → List ℕ
verdict_part (Accepted steps) = joined (codes " accepted " ∷ decimal steps ∷ codes "\n" ∷ [])
verdict_part (Refused refusal) = refused_part refusal.table refusal.at (cause_text refusal.why)
verdict_part (Unreadable table refusal) =
    refused_part table refusal.at (tree_cause_text refusal.cause)

-- the line of a verdict
unfoldable pub verdict_line : List ℕ → VerdictLine → List ℕ
verdict_line path verdict = path ++ verdict_part verdict
