use Rattle.std.proofs.Common.{◌+◌, ◌*◌, drop}
use Rattle.aml_operators.specs.Tree.{view, views}
use Rattle.aml_namespace.proofs.Weights.{weight, weights}
use Rattle.aml_bounds.specs.Shapes.{assigns_in}
use Rattle.aml_targets.proofs.Added.{Leaves}
use Rattle.aml_targets.proofs.targets.Targets.+walk.Given as goal

-- the targets in the terms so far are marked
abbrev pub invariant-walk_all-terms : goal.invariant-walk_all-terms
invariant-walk_all-terms l = Leaves (λ is. assigns_in is (views (drop l.term-index l.terms))) (λ is. assigns_in is (views l.terms)) l.initial.self l.self

abbrev pub decreases-walk : goal.decreases-walk
decreases-walk l = 2 * weight (view l.term.now) + 1

abbrev pub decreases-walk_all : goal.decreases-walk_all
decreases-walk_all l = 2 * weights (views l.terms.now)
