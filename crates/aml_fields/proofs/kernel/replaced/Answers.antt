use Rattle.aml_fields.proofs.Masks.{put_in}
use Rattle.aml_fields.proofs.kernel.replaced.Goals as goal

pub returns : goal.returns
returns c = rw c.ones.ensures (put_in c.args.old c.args.s c.args.k c.args.part c.requires.k c.ranges.old.fits c.requires.part)
