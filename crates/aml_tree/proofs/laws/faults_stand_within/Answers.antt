use Rattle.aml_tree.proofs.Faults.{module_fault, body_fault}
use Rattle.aml_tree.proofs.laws.faults_stand_within.Goals as goal

pub returns-clause-module_faults : goal.returns-clause-module_faults
returns-clause-module_faults c = module_fault

pub returns-clause-body_faults : goal.returns-clause-body_faults
returns-clause-body_faults c = body_fault
