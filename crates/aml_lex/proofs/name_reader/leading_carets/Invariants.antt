use Rattle.std.proofs.Common.{◌≡◌, ◌+◌, drop}
use Rattle.aml_lex.specs.Reading.{carets}
use Rattle.aml_lex.proofs.name_reader.leading_carets.Given as goal

-- all bytes so far are carets
abbrev pub invariant-loop-count : goal.invariant-loop-count
invariant-loop-count l = carets (drop l.at l.bytes) ≡ l.count + carets (drop l.count (drop l.at l.bytes))
