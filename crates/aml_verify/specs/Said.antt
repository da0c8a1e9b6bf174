-- What is said of methods so far, by their numbers.
use Rattle.std.specs.Prelude.{ℕ, List, Option, Some, None, slice_get, unwrap_or}
use Rattle.aml_judged.specs.Judged as judged
use Rattle.aml_kinds.specs.Kinds.{Shape}
use Rattle.aml_known.specs.Views.{accepted_of}
use Rattle.aml_verify.specs.declared.verdict.Verdict.{Verdict}
use Rattle.aml_verify.specs.declared.verdict.Verdict.TheVariants as verdict

-- what is said of the method with a number, if anything is yet
abbrev pub verdict_at : List (Option Verdict) → ℕ → Option Verdict
verdict_at verdicts k = unwrap_or (slice_get verdicts k) None

-- what a caller sees of it, where it is accepted
abbrev pub accepted_by : (ℕ → Shape) → Option Verdict → Option judged.Accepted
accepted_by shapes (Some (verdict.Accepted a)) = Some (accepted_of shapes a)
accepted_by shapes v = None
