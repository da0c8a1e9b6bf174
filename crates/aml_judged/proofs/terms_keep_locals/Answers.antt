use Rattle.aml_judged.proofs.Tame.{terms_keep_locals}
use Rattle.aml_judged.proofs.terms_keep_locals.Goals as goal

pub returns : goal.returns
returns c = terms_keep_locals
