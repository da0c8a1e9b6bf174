-- What is wrong, as it is printed: a number and a name.
use Rattle.std.specs.Prelude.{ℕ, List, codes}
use Rattle.aml_lex.specs.declared.fault.LexCause.{LexCause}
use Rattle.aml_lex.specs.declared.fault.LexCause.TheVariants.{Truncated, BadPkgLength, BadName, BadString, Overrun}

abbrev pub lex_cause_text : LexCause → List ℕ
lex_cause_text Truncated = codes "E201 Truncated"
lex_cause_text BadPkgLength = codes "E202 BadPkgLength"
lex_cause_text BadName = codes "E203 BadName"
lex_cause_text BadString = codes "E206 BadString"
lex_cause_text Overrun = codes "E207 Overrun"
