use Rattle.std.proofs.Common.{◌≡◌, ℕ, List, Some}
use Rattle.aml_values.specs.Values.{Buf}
use Rattle.aml_contents.specs.Contents.{content_at}
use Rattle.aml_contents.specs.Held.{contents, content_kinds}
use Rattle.aml_machine.proofs.InPlace.{IsStoredBelow}
use Rattle.aml_machine.proofs.in_place.put_bits.Given as goal

-- the bytes below have their bits, and the others are as they were
abbrev pub invariant-loop-place : goal.invariant-loop-place
invariant-loop-place g l = record {
  put : (bytes : List ℕ) → content_at (contents l.fn.names) l.id.0 ≡ Some (Buf bytes) → IsStoredBelow (contents l.fn.names) (contents l.names) l.id.0 l.field (g.B.Bits.bit l.value) l.place bytes;
  kinds : content_kinds l.names ≡ content_kinds l.fn.names;
}
