use Rattle.std.proofs.Common.{◌≡◌, ℕ, ◌<◌, ◌≤◌, ◌-◌, ◌*◌, ◌/◌, min, get_or}
use Rattle.aml_regions.specs.Fields.{mixed}
use Rattle.aml_regions.specs.BufferFields.{in_bytes}
use Rattle.aml_fields.proofs.buffer.write_buffer_field.Given as goal

-- the bytes below have their bits, and the others are as they were
abbrev pub invariant-loop-unit : goal.invariant-loop-unit
invariant-loop-unit g l = record {
  low : l.at / 8 ≤ l.unit;
  done : l.done ≡ min l.bits (l.unit * 8 - l.at);
  below : (j : ℕ) → j < l.unit → l.at / 8 ≤ j → get_or l.buffer j 0 ≡ mixed (in_bytes l.at l.bits) (g.B.Bits.bit l.value) j (get_or l.fn.buffer j 0);
  before : (j : ℕ) → j < l.at / 8 → get_or l.buffer j 0 ≡ get_or l.fn.buffer j 0;
  behind : (j : ℕ) → l.unit ≤ j → get_or l.buffer j 0 ≡ get_or l.fn.buffer j 0;
}
