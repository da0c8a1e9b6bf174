use Rattle.std.specs.Prelude.{length, slice_index}
use Rattle.aml_regions.specs.Bytes.{byte_of, with_run, AreSet, SameBytes}
use Rattle.aml_regions.proofs.bytes.put_run.Given as goal

-- the bytes before the next one are put, and no place that was kept is given up
abbrev pub invariant-loop-i : goal.invariant-loop-i
invariant-loop-i l = record {
  put : SameBytes (with_run (byte_of l.fn.bytes) l.space l.address l.i (slice_index l.run)) (byte_of l.bytes);
  room : AreSet l.fn.bytes l.space l.address (length l.run) → AreSet l.bytes l.space l.address (length l.run);
}
