use Rattle.aml_tree.proofs.Refused.{one_module_fault, one_body_fault}
use Rattle.aml_tree.proofs.laws.faults_are_unique.Goals as goal

pub returns-clause-module_fault : goal.returns-clause-module_fault
returns-clause-module_fault c = one_module_fault

pub returns-clause-body_fault : goal.returns-clause-body_fault
returns-clause-body_fault c = one_body_fault
