use Rattle.std.proofs.Common.{sym}
use Rattle.aml_operators.specs.Tree.{view, views}
use Rattle.aml_objects.specs.Widths.{bits_of}
use Rattle.aml_bounds.specs.Loops.{moves_of, shape_for}
use Rattle.aml_bounds.proofs.OneByOne.{not_alone}
use Rattle.aml_bounds.proofs.shape.against_local.Goals as goal

pub returns-in-len1-up : goal.returns-in-len1-up
returns-in-len1-up c = sym (not_alone (bits_of c.args.width) c.args.local (shape_for c.args.step) (moves_of (bits_of c.args.width) c.args.step) c.args.parts.now (view c.args.limit.now) (views c.args.body.now) c.in-len1-up.len_at_least)
