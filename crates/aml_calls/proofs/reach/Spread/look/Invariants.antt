use Rattle.std.proofs.Common.{take}
use Rattle.aml_calls.specs.Pairs.{numbers}
use Rattle.aml_calls.specs.Spread.{LooksAt}
use Rattle.aml_calls.proofs.reach.Spread.look.Given as goal

-- the methods so far are looked at
abbrev pub invariant-row : goal.invariant-row
invariant-row l = LooksAt (numbers (take l.callee-index l.row)) l.initial.self l.self
