use Rattle.std.proofs.Common.{sym}
use Rattle.aml_operators.specs.Tree.{views}
use Rattle.aml_objects.specs.Widths.{bits_of}
use Rattle.aml_bounds.proofs.OneByOne.{no_local}
use Rattle.aml_bounds.proofs.shape.down_to_zero.Goals as goal

pub returns-in-len1-up : goal.returns-in-len1-up
returns-in-len1-up c = sym (no_local (bits_of c.args.width) c.args.local c.args.parts.now (views c.args.body.now) c.in-len1-up.len_at_least)
