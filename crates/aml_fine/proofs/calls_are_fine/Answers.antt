use Rattle.aml_fine.proofs.Lent.{calls_are_fine}
use Rattle.aml_fine.proofs.calls_are_fine.Goals as goal

pub returns : goal.returns
returns c = calls_are_fine
