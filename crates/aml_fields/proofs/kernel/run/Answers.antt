use Rattle.aml_fields.proofs.Masks.{masked}
use Rattle.aml_fields.proofs.kernel.run.Goals as goal

pub returns : goal.returns
returns c = rw c.ones.ensures (masked c.args.x c.args.s c.args.k)
