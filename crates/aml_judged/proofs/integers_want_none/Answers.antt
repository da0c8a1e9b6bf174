use Rattle.aml_judged.proofs.Integers.{integers_want_none}
use Rattle.aml_judged.proofs.integers_want_none.Goals as goal

pub returns : goal.returns
returns c = integers_want_none
