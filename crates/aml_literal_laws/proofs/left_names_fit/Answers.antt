use Rattle.aml_literal_laws.proofs.First.{left_names_fit}
use Rattle.aml_literal_laws.proofs.left_names_fit.Goals as goal

pub returns : goal.returns
returns c = left_names_fit
