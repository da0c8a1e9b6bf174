-- What gathered bits make, where they go on.
use Rattle.std.proofs.Common.{◌≡◌, ℕ, ◌+◌, ◌*◌, ◌^◌, refl}
use Rattle.aml_regions.specs.Bits.{number}
use Rattle.aml_regions.specs.BufferFields.{bytes_of, stored}
use Rattle.aml_fields.specs.Gathered.{GoesOn}
use Rattle.std.specs.Int.{bit_at}
use Rattle.aml_fields.proofs.Numbers.{number-add, number_same}
use Rattle.aml_fields.proofs.WideBytes.{stored_more}

module _ (before bit : ℕ → ℕ) (done take part : ℕ) (g : GoesOn before bit done take part) where
  pub number_more : number (done + take) bit ≡ part * 2 ^ done + number done before
  number_more = rw (number-add done take bit, number_same done bit before g.same, g.run) refl

  pub bytes_more : (size : ℕ) → stored done take (bit_at part) (bytes_of size done before) ≡ bytes_of size (done + take) bit
  bytes_more size = rw g.run (stored_more size done take before bit g.before_are g.are g.same)
