use Rattle.std.proofs.Common.{ℕ}
use Rattle.aml_kinds.specs.Kinds.{Shape}
use Rattle.aml_known.specs.Views.{AreApart}
use Rattle.aml_findings.specs.Finds.{Keep}
use Rattle.aml_findings.proofs.finds.changed.Given as goal

-- all slots before it are within what they began with
abbrev pub invariant-loop-number : goal.invariant-loop-number
invariant-loop-number l = (shapes : ℕ → Shape) → AreApart shapes → Keep shapes l.ends l.starts l.number
