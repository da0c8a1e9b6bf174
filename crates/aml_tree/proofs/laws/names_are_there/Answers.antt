use Rattle.aml_tree.proofs.Names.{module_spelled, body_spelled}
use Rattle.aml_tree.proofs.laws.names_are_there.Goals as goal

pub returns-clause-module_names : goal.returns-clause-module_names
returns-clause-module_names c = module_spelled

pub returns-clause-body_names : goal.returns-clause-body_names
returns-clause-body_names c = body_spelled
