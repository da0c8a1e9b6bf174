use Rattle.std.proofs.Common.{◌≡◌, ◌+◌, ◌*◌, drop}
use Rattle.aml_operators.specs.Tree.{views}
use Rattle.aml_namespace.proofs.Weights.{weights}
use Rattle.aml_contents.specs.BodyData.{first_computed}
use Rattle.aml_contents.proofs.bodies.+computed.Given as goal

-- none of the terms so far has a computed size
abbrev pub invariant-first_computed-terms : goal.invariant-first_computed-terms
invariant-first_computed-terms l = first_computed (views l.terms) ≡ first_computed (views (drop l.term-index l.terms))

abbrev pub decreases-computed_size : goal.decreases-computed_size
decreases-computed_size l = 2 * weights (views l.parts.now) + 1

abbrev pub decreases-first_computed : goal.decreases-first_computed
decreases-first_computed l = 2 * weights (views l.terms.now)
