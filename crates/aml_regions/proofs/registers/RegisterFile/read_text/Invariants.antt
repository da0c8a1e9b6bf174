use Rattle.std.proofs.Common.{◌≡◌, ℕ, List, [], ◌+◌, ◌++◌, ◌≤◌, length}
use Rattle.aml_regions.specs.Registers.{contents}
use Rattle.aml_regions.specs.Text.{lines_of}
use Rattle.aml_regions.proofs.Lines.{Done}
use Rattle.aml_regions.proofs.registers.RegisterFile.read_text.Given as goal

-- the lines before the rest are set
abbrev pub invariant-loop-line : goal.invariant-loop-line
invariant-loop-line l = record {
  log : l.file.events.items ≡ [];
  refusals : l.file.refusals ≡ 0;
  room : l.number + length l.rest ≤ length l.fn.text + 1;
  set : (before : List (List ℕ)) × (lines_of l.fn.text ≡ before ++ lines_of l.rest) × (l.number ≡ length before + 1) × Done before (contents l.file);
}

abbrev pub decreases-loop-line : goal.decreases-loop-line
decreases-loop-line l = length l.rest
