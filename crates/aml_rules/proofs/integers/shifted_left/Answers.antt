use Rattle.aml_rules.proofs.Shifts.{none_below}
use Rattle.aml_rules.proofs.integers.shifted_left.Goals as goal

pub returns-else-count-lt64 : goal.returns-else-count-lt64
returns-else-count-lt64 c = none_below c.args.n c.args.count c.if-count-lt64.false
