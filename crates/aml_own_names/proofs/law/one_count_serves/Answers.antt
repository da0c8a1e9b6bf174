use Rattle.aml_own_names.proofs.Standing.{one_count_serves}
use Rattle.aml_own_names.proofs.law.one_count_serves.Goals as goal

pub returns : goal.returns
returns c = one_count_serves
