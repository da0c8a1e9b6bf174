use Rattle.aml_externals.proofs.Left.{none_is_left}
use Rattle.aml_externals.proofs.laws.no_dead_if_is_left.Goals as goal

pub returns : goal.returns
returns c = none_is_left
