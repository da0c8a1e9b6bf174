use Rattle.aml_fields.proofs.Masks.{or_above}
use Rattle.aml_fields.proofs.kernel.above.Goals as goal

pub returns : goal.returns
returns c = or_above c.args.high c.args.m c.args.low c.requires.low c.requires.fits
