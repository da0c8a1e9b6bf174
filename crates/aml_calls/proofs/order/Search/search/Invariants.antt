use Rattle.aml_calls.specs.Pairs.{calls_in, named}
use Rattle.aml_calls.specs.Search.{left_of}
use Rattle.aml_calls.proofs.Visited.{IsOn}
use Rattle.aml_calls.proofs.order.Search.search.Given as goal

abbrev pub invariant-path : goal.invariant-path
invariant-path l = IsOn (calls_in l.calls.pairs.now) (named l.calls.pairs.now) l.initial.self l.self

abbrev pub decreases-path : goal.decreases-path
decreases-path l = left_of l.self
