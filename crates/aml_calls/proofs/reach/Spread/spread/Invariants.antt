use Rattle.aml_calls.specs.Pairs.{calls_in, named, numbers}
use Rattle.aml_calls.specs.Spread.{SpreadsOn, work}
use Rattle.aml_calls.proofs.reach.Spread.spread.Given as goal

abbrev pub invariant-waiting : goal.invariant-waiting
invariant-waiting l = SpreadsOn (calls_in l.calls.pairs.now) (named l.calls.pairs.now) l.fn.from.0 (numbers l.self.waiting.items) l.self

abbrev pub decreases-waiting : goal.decreases-waiting
decreases-waiting l = work l.self.seen.items (numbers l.self.waiting.items)
