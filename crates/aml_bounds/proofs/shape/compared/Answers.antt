use Rattle.std.proofs.Common.{sym, arith}
use Rattle.aml_operators.specs.Tree.{views}
use Rattle.aml_objects.specs.Widths.{bits_of}
use Rattle.aml_bounds.specs.Loops.{moves_of, shape_for}
use Rattle.aml_bounds.proofs.OneByOne.{no_comparison}
use Rattle.aml_bounds.proofs.shape.compared.Goals as goal

pub returns-in-empty : goal.returns-in-empty
returns-in-empty c = sym (no_comparison (bits_of c.args.width) (shape_for c.args.step) (moves_of (bits_of c.args.width) c.args.step) c.args.parts.now (views c.args.body.now) (λ e. omega (arith, e, c.in-empty.len_below)))

pub returns-in-empty-2 : goal.returns-in-empty-2
returns-in-empty-2 c = sym (no_comparison (bits_of c.args.width) (shape_for c.args.step) (moves_of (bits_of c.args.width) c.args.step) c.args.parts.now (views c.args.body.now) (λ e. omega (arith, e, c.in-empty.len_at_least)))
