use Rattle.aml_verdict_laws.proofs.Known.{verdicts_are_there}
use Rattle.aml_verdict_laws.proofs.verdicts_are_there.Goals as goal

pub returns : goal.returns
returns c = verdicts_are_there
