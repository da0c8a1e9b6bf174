use Rattle.aml_verified.proofs.Accepted.{accepted_methods_run}
use Rattle.aml_verified.proofs.accepted_methods_run.Goals as goal

pub returns : goal.returns
returns c = accepted_methods_run
