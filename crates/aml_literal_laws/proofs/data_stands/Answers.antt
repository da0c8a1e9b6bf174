use Rattle.aml_literal_laws.proofs.First.{data_stands}
use Rattle.aml_literal_laws.proofs.data_stands.Goals as goal

pub returns : goal.returns
returns c = data_stands
