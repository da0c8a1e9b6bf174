use Rattle.std.proofs.Common.{◌≡◌}
use Rattle.aml_arities.proofs.answered.Answered.of.Given as goal

-- what declarations tell stays
abbrev pub invariant-loop-number : goal.invariant-loop-number
invariant-loop-number l = l.answered.counted ≡ l.initial.answered.counted
