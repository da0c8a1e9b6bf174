use Rattle.aml_literal_laws.proofs.First.{first_names_fit}
use Rattle.aml_literal_laws.proofs.first_names_fit.Goals as goal

pub returns : goal.returns
returns c = first_names_fit
