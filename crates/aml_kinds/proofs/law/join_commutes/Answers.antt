use Rattle.aml_kinds.proofs.JoinLaws.{join_comm}
use Rattle.aml_kinds.proofs.law.join_commutes.Goals as goal

pub returns : goal.returns
returns c = join_comm
