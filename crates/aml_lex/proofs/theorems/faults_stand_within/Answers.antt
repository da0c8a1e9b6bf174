use Rattle.aml_lex.proofs.Laws.{pkg_length_fault, package_end_fault, name_string_fault, integer_data_fault, string_data_fault}
use Rattle.aml_lex.proofs.theorems.faults_stand_within.Goals as goal

pub returns-clause-pkg_length : goal.returns-clause-pkg_length
returns-clause-pkg_length c = pkg_length_fault

pub returns-clause-package_end : goal.returns-clause-package_end
returns-clause-package_end c = package_end_fault

pub returns-clause-name_string : goal.returns-clause-name_string
returns-clause-name_string c = name_string_fault

pub returns-clause-integer_data : goal.returns-clause-integer_data
returns-clause-integer_data c = integer_data_fault

pub returns-clause-string_data : goal.returns-clause-string_data
returns-clause-string_data c = string_data_fault
