use Rattle.aml_interp.proofs.Answered.{headline}
use Rattle.aml_interp.proofs.headline.accepted_methods_are_done.Goals as goal

pub returns : goal.returns
returns c = headline
