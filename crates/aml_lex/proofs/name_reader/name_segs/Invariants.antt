use Rattle.std.proofs.Common.{◌≡◌, ◌+◌, ◌*◌, ◌≤◌, length, drop}
use Rattle.aml_lex.specs.declared.fault.LexCause.TheVariants.{BadName}
use Rattle.aml_lex.specs.Read.{place_behind}
use Rattle.aml_lex.specs.Reading.{segs_read}
use Rattle.aml_lex.proofs.name_reader.name_segs.Given as goal

-- the segments so far, and what is read behind them
abbrev pub invariant-loop-left : goal.invariant-loop-left
invariant-loop-left l = record {
  few : l.left ≤ l.count;
  size : l.next + 4 * l.left ≡ l.at + 4 * l.count;
  within : l.next ≤ length l.bytes;
  rest : place_behind BadName l.at (length l.bytes) (segs_read l.count (drop l.at l.bytes))
      ≡ place_behind BadName l.next (length l.bytes) (segs_read l.left (drop l.next l.bytes));
}

abbrev pub decreases-loop-left : goal.decreases-loop-left
decreases-loop-left l = l.left
