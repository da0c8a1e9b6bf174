use Rattle.aml_calls.specs.Pairs.{calls_in}
use Rattle.aml_components.proofs.Visiting.{HasVisited}
use Rattle.aml_components.proofs.search.marks_of.Given as goal

abbrev pub invariant-numbers : goal.invariant-numbers
invariant-numbers l = HasVisited (calls_in l.calls.pairs.now) l.room l.number l.search
