use Rattle.std.proofs.Common.{◌≡◌, map, length}
use Rattle.aml_signatures.specs.Signed.{kinds_told}
use Rattle.aml_signatures.specs.Text.{LinesSign, nothing_told}
use Rattle.aml_signatures.proofs.signatures.Signatures.read.Given as goal

-- what the lines so far tell
abbrev pub invariant-loop-line : goal.invariant-loop-line
invariant-loop-line l = record {
  can : (goal.iterator-loop-line).can_next l.line-iterator;
  ends : (goal.iterator-loop-line).is_finite l.line-iterator;
  count : l.number ≡ length l.yielded;
  signs : LinesSign (map (λ x. x.now) l.yielded) nothing_told (kinds_told l.signatures);
}
