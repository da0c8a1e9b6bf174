use Rattle.aml_calls.specs.Pairs.{calls_in}
use Rattle.aml_components.proofs.Raising.{RaisedTo}
use Rattle.aml_components.proofs.heights.raise.Given as goal

abbrev pub invariant-ordered : goal.invariant-ordered
invariant-ordered l = RaisedTo (calls_in l.calls.pairs.now) l.ordered l.method-index l.heights
