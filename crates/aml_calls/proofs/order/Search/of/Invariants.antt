use Rattle.std.proofs.Common.{take}
use Rattle.aml_calls.specs.Pairs.{calls_in, named}
use Rattle.aml_calls.proofs.Visited.{HasVisited}
use Rattle.aml_calls.proofs.order.Search.of.Given as goal

abbrev pub invariant-pairs : goal.invariant-pairs
invariant-pairs l = HasVisited (calls_in l.calls.pairs.now) (named l.calls.pairs.now) (named (take l.pair-index l.calls.pairs.now)) l.search
