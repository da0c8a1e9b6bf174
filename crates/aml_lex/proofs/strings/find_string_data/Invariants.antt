use Rattle.std.proofs.Common.{◌≡◌, ◌++◌, take, drop}
use Rattle.aml_lex.specs.Read.{behind}
use Rattle.aml_lex.specs.Reading.{string_read}
use Rattle.aml_lex.proofs.strings.find_string_data.Given as goal

-- the text so far, and what is read behind it
abbrev pub invariant-loop-len : goal.invariant-loop-len
invariant-loop-len l =
    string_read (drop l.at l.bytes) ≡ behind l.len (λ text. take l.len (drop l.at l.bytes) ++ text) (string_read (drop l.len (drop l.at l.bytes)))
