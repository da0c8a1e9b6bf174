use Rattle.std.proofs.Common.{◌≡◌, ◌+◌, ◌*◌, drop}
use Rattle.aml_operators.specs.Tree.{view, views}
use Rattle.aml_namespace.proofs.Weights.{weight, weights}
use Rattle.aml_bounds.specs.Shapes.{continues_in}
use Rattle.aml_bounds.proofs.stands.+continues.Given as goal

-- no Continue stands in the terms so far
abbrev pub invariant-continues_in-terms : goal.invariant-continues_in-terms
invariant-continues_in-terms l = continues_in (views l.terms) ≡ continues_in (views (drop l.term-index l.terms))

abbrev pub decreases-continues : goal.decreases-continues
decreases-continues l = 3 * weight (view l.term.now) + 2

abbrev pub decreases-continues_first : goal.decreases-continues_first
decreases-continues_first l = 3 * weights (views l.terms.now) + 1

abbrev pub decreases-continues_in : goal.decreases-continues_in
decreases-continues_in l = 3 * weights (views l.terms.now)
