use Rattle.aml_externals.proofs.TableLaws.{tables_stay}
use Rattle.aml_externals.proofs.laws.tables_stay.Goals as goal

pub returns : goal.returns
returns c = tables_stay
