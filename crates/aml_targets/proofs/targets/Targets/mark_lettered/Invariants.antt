use Rattle.std.proofs.Common.{drop}
use Rattle.aml_operators.specs.Tree.{views}
use Rattle.aml_bounds.specs.Shapes.{lettered}
use Rattle.aml_targets.proofs.Added.{Leaves}
use Rattle.aml_targets.proofs.targets.Targets.mark_lettered.Given as goal

-- the parts so far are marked that have a target's letter
abbrev pub invariant-letters : goal.invariant-letters
invariant-letters l = Leaves (λ is. lettered is (drop l.i l.letters) (views (drop l.i l.parts))) (λ is. lettered is l.letters (views l.parts)) l.initial.self l.self
