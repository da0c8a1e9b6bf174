use Rattle.std.proofs.Common.{length, arith, refl}
use Rattle.aml_externals.proofs.dead_if.externals_until.Goals as goal

pub loop-at-init : goal.loop-at-init
loop-at-init c = (length c.args.bytes.now, omega arith, omega arith, refl)
