use Rattle.std.proofs.Common.{◌≡◌, ◌+◌, ◌*◌, drop}
use Rattle.aml_operators.specs.Tree.{view, views}
use Rattle.aml_namespace.proofs.Weights.{weight, weights}
use Rattle.aml_bounds.specs.Shapes.{assigns_in, is_local}
use Rattle.aml_bounds.proofs.stands.+assigns.Given as goal

-- none of the terms so far has the local as a target
abbrev pub invariant-assigns_in-terms : goal.invariant-assigns_in-terms
invariant-assigns_in-terms l = assigns_in (is_local l.local) (views l.terms) ≡ assigns_in (is_local l.local) (views (drop l.term-index l.terms))

abbrev pub decreases-assigns : goal.decreases-assigns
decreases-assigns l = 2 * weight (view l.term.now) + 1

abbrev pub decreases-assigns_in : goal.decreases-assigns_in
decreases-assigns_in l = 2 * weights (views l.terms.now)
