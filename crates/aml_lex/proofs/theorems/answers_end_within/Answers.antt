use Rattle.aml_lex.proofs.Laws.{pkg_length_ends, package_end_ends, name_string_ends, integer_data_ends, string_data_ends}
use Rattle.aml_lex.proofs.theorems.answers_end_within.Goals as goal

pub returns-clause-pkg_length : goal.returns-clause-pkg_length
returns-clause-pkg_length c = pkg_length_ends

pub returns-clause-package_end : goal.returns-clause-package_end
returns-clause-package_end c = package_end_ends

pub returns-clause-name_string : goal.returns-clause-name_string
returns-clause-name_string c = name_string_ends

pub returns-clause-integer_data : goal.returns-clause-integer_data
returns-clause-integer_data c = integer_data_ends

pub returns-clause-string_data : goal.returns-clause-string_data
returns-clause-string_data c = string_data_ends
