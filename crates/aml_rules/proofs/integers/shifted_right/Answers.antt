use Rattle.aml_rules.proofs.Shifts.{none_above}
use Rattle.aml_rules.proofs.integers.shifted_right.Goals as goal

pub returns-else-count-lt64 : goal.returns-else-count-lt64
returns-else-count-lt64 c = none_above c.args.n c.args.count c.ranges.n.fits c.if-count-lt64.false
