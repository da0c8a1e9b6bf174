use Rattle.aml_externals.proofs.Scopes.{dead_ifs_are_scopes}
use Rattle.aml_externals.proofs.laws.dead_ifs_are_scopes.Goals as goal

pub returns : goal.returns
returns c = dead_ifs_are_scopes
