use Rattle.std.proofs.Common.{sym}
use Rattle.aml_kinds.proofs.ShapeLengths.{same_shape-differ}
use Rattle.aml_kinds.proofs.same_kinds.+same_kind.Goals as goal

pub shapes_match-returns-then-s-t : goal.shapes_match-returns-then-s-t
shapes_match-returns-then-s-t t c = sym (same_shape-differ c.args.s.now c.args.t.now c.if-s-t.true)
