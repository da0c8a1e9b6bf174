use Rattle.aml_regions.specs.Bytes.{byte_of, AreSet, SameBytes}
use Rattle.aml_regions.proofs.bytes.make_room.Given as goal

-- the places before the next one are kept, and each byte is what it was
abbrev pub invariant-loop-i : goal.invariant-loop-i
invariant-loop-i l = record {
  kept : SameBytes (byte_of l.fn.bytes) (byte_of l.bytes);
  room : AreSet l.bytes l.access.space l.access.address l.i;
}
