use Rattle.aml_verified.proofs.Spared.{accepted_integers_spare}
use Rattle.aml_verified.proofs.accepted_integers_spare.Goals as goal

pub returns : goal.returns
returns c = accepted_integers_spare
