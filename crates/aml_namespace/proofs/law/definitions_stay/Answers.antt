use Rattle.aml_namespace.proofs.Placed as placed
use Rattle.aml_namespace.proofs.law.definitions_stay.Goals as goal

pub returns : goal.returns
returns c = placed.definitions_stay
