use Rattle.std.proofs.Common.{arith}
use Rattle.aml_fields.proofs.Places.{touched_unit}
use Rattle.aml_fields.proofs.count.is_covered.Goals as goal

pub overflow_mul-start : goal.overflow_mul-start
overflow_mul-start c =
    let t = touched_unit c.args.layout.now c.args.unit c.requires.laid_out c.requires.low c.requires.high in
    record { fits = rw (c.from-width.ensures, c.bits.ensures) (omega (arith, t.high, c.requires.laid_out.bits)) }

pub overflow_sub-result : goal.overflow_sub-result
overflow_sub-result c =
    let t = touched_unit c.args.layout.now c.args.unit c.requires.laid_out c.requires.low c.requires.high in
    rw (c.from-width.ensures, c.bits.ensures) (omega (arith, t.high))
