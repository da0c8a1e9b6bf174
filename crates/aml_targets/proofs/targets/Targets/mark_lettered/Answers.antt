use Rattle.std.proofs.Common.{drop, length, arith}
use Rattle.aml_operators.specs.Tree.{views}
use Rattle.aml_bounds.specs.Shapes.{lettered}
use Rattle.aml_targets.proofs.Added.{either_short, leaves_nothing, lettered_out}
use Rattle.aml_targets.proofs.targets.Targets.mark_lettered.Goals as goal

pub returns : goal.returns
returns c =
    let letters = c.args.letters.now in
    let parts = c.args.parts.now in
    let i = c.letters.i in
    leaves_nothing (λ is. lettered is (drop i letters) (views (drop i parts))) (λ is. lettered is letters (views parts)) c.args.self.now c.letters.self (λ is. lettered_out is letters parts i (either_short (length letters) (length parts) i (omega (arith, c.min-i-end.ensures, c.letters-test.false)))) c.letters.invariant
