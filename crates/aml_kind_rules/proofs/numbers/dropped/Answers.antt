use Rattle.std.proofs.Common.{arith}
use Rattle.aml_rules.proofs.Shifts.{none_above}
use Rattle.aml_kind_rules.proofs.numbers.dropped.Goals as goal

pub returns-else-count-lt64 : goal.returns-else-count-lt64
returns-else-count-lt64 c = none_above c.args.a c.args.count (omega (arith, c.ranges.a.fits)) c.if-count-lt64.false
