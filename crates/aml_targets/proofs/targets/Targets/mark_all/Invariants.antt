use Rattle.std.proofs.Common.{drop}
use Rattle.aml_operators.specs.Tree.{views}
use Rattle.aml_targets.specs.Marks.{acts_in}
use Rattle.aml_targets.proofs.Added.{Leaves}
use Rattle.aml_targets.proofs.targets.Targets.mark_all.Given as goal

-- the terms so far are marked
abbrev pub invariant-terms : goal.invariant-terms
invariant-terms l = Leaves (λ is. acts_in is (views (drop l.term-index l.terms))) (λ is. acts_in is (views l.terms)) l.initial.self l.self
