use Rattle.aml_kinds.proofs.JoinLaws.{join_same}
use Rattle.aml_kinds.proofs.law.join_stays.Goals as goal

pub returns : goal.returns
returns c = join_same
