use Rattle.aml_lex.specs.Spelling.{SpellsPkgLength, SpellsName, SpellsInteger, SpellsString}
use Rattle.aml_lex.specs.Reading.{pkg_length_read, name_string_read, integer_read, string_read}
use Rattle.aml_lex.proofs.Readers.{one_front}
use Rattle.aml_lex.proofs.Spelled.{pkg_length_reader, integer_reader, string_reader}
use Rattle.aml_lex.proofs.SpelledNames.{name_string_reader}
use Rattle.aml_lex.proofs.theorems.spellings_are_unique.Goals as goal

pub returns-clause-pkg_length : goal.returns-clause-pkg_length
returns-clause-pkg_length c = one_front SpellsPkgLength pkg_length_read pkg_length_reader

pub returns-clause-name_string : goal.returns-clause-name_string
returns-clause-name_string c = one_front SpellsName name_string_read name_string_reader

pub returns-clause-integer_data : goal.returns-clause-integer_data
returns-clause-integer_data c = one_front SpellsInteger integer_read integer_reader

pub returns-clause-string_data : goal.returns-clause-string_data
returns-clause-string_data c = one_front SpellsString string_read string_reader
