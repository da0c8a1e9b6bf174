use Rattle.aml_judged.proofs.Integers.{integers_alone}
use Rattle.aml_judged.proofs.integers_alone.Goals as goal

pub returns : goal.returns
returns c = integers_alone
