use Rattle.std.proofs.Common.{◌≡◌, ℕ, ◌<◌, ◌+◌, ◌*◌, get_or, min}
use Rattle.aml_regions.specs.Bits.{byte_bit, number}
use Rattle.aml_fields.proofs.WideBytes.{so_far}
use Rattle.aml_fields.proofs.buffer.read_wide_buffer_field.Given as goal

-- the bytes below have their bits
abbrev pub invariant-loop-place : goal.invariant-loop-place
invariant-loop-place l = record {
  done : l.done ≡ min l.bits (l.place * 8);
  below : (j : ℕ) → j < l.place → get_or l.bytes j 0 ≡ number 8 (λ i. so_far l.bits (λ k. byte_bit l.buffer (l.at + k)) (j * 8 + i));
}
