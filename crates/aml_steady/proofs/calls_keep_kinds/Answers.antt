use Rattle.aml_steady.proofs.KindsStay.{calls_keep}
use Rattle.aml_steady.proofs.calls_keep_kinds.Goals as goal

pub returns : goal.returns
returns c = calls_keep
