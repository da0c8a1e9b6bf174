use Rattle.std.proofs.Common.{take}
use Rattle.aml_calls.specs.Pairs.{calls_in, named, numbers}
use Rattle.aml_calls.specs.Search.{VisitsAll}
use Rattle.aml_calls.proofs.order.Search.visit_all.Given as goal

-- the methods so far are visited
abbrev pub invariant-methods : goal.invariant-methods
invariant-methods l = VisitsAll (calls_in l.calls.pairs.now) (named l.calls.pairs.now) (numbers (take l.method-index l.methods)) l.initial.self l.self
