use Rattle.aml_kinds.proofs.JoinLaws.{join_assoc}
use Rattle.aml_kinds.proofs.law.join_associates.Goals as goal

pub returns : goal.returns
returns c = join_assoc
