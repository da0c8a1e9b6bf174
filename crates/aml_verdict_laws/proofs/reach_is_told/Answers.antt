use Rattle.aml_verdict_laws.proofs.Reaching.{reach_is_told}
use Rattle.aml_verdict_laws.proofs.reach_is_told.Goals as goal

pub returns : goal.returns
returns c = reach_is_told
