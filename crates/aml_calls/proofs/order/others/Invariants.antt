use Rattle.aml_calls.specs.Pairs.{numbers}
use Rattle.aml_calls.proofs.Others.{LeftSoFar}
use Rattle.aml_calls.proofs.order.others.Given as goal

-- those among the marks so far
abbrev pub invariant-marks : goal.invariant-marks
invariant-marks l = LeftSoFar l.marks l.number (numbers l.others.items)
