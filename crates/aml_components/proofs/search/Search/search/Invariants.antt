use Rattle.std.proofs.Common.{length}
use Rattle.aml_calls.specs.Pairs.{calls_in, named}
use Rattle.aml_components.specs.Search.{left}
use Rattle.aml_components.proofs.Visiting.{IsOn}
use Rattle.aml_components.proofs.search.Search.search.Given as goal

abbrev pub invariant-roots : goal.invariant-roots
invariant-roots l = IsOn (calls_in l.calls.pairs.now) l.initial.self l.self

abbrev pub decreases-roots : goal.decreases-roots
decreases-roots l = left (length (named l.calls.pairs.now)) l.self
