use Rattle.aml_lex.proofs.ExactLaws.{pkg_length_full, name_string_full, integer_data_full, string_data_full}
use Rattle.aml_lex.proofs.theorems.spellings_are_read.Goals as goal

pub returns-clause-pkg_length : goal.returns-clause-pkg_length
returns-clause-pkg_length c = pkg_length_full

pub returns-clause-name_string : goal.returns-clause-name_string
returns-clause-name_string c = name_string_full

pub returns-clause-integer_data : goal.returns-clause-integer_data
returns-clause-integer_data c = integer_data_full

pub returns-clause-string_data : goal.returns-clause-string_data
returns-clause-string_data c = string_data_full
