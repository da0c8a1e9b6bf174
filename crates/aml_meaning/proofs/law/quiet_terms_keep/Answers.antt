use Rattle.aml_meaning.proofs.Quiet.{quiet_terms_keep}
use Rattle.aml_meaning.proofs.law.quiet_terms_keep.Goals as goal

pub returns : goal.returns
returns c = quiet_terms_keep
