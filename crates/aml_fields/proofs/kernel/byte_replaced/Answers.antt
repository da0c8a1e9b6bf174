use Rattle.aml_fields.proofs.Masks.{put_lt}
use Rattle.aml_fields.proofs.kernel.byte_replaced.Goals as goal

pub overflow_cast-result : goal.overflow_cast-result
overflow_cast-result c = record { fits = put_lt 8 c.args.s c.args.k c.args.old c.args.part c.replaced.result c.requires.k c.ranges.old.fits c.requires.part c.replaced.ensures }
