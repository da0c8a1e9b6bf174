-- Fields of buffers, and fields as bytes (ACPI 6.5, 19.6, CreateField and its kin).
use Rattle.std.specs.Prelude.{ℕ, ◌+◌, ◌*◌, nat_lt, if◌then◌else◌, List, map, length, slice_index}
use Rattle.std.specs.List.{range_with_len}
use Rattle.aml_regions.specs.Bits.{number}
use Rattle.aml_regions.specs.Fields.{mixed}
use Rattle.aml_regions.specs.declared.field.FieldLayout.{FieldLayout}
use Rattle.aml_regions.specs.declared.field.OtherBits.TheVariants.{Preserve}
use Rattle.aml_regions.specs.declared.field.UnitWidth.TheVariants.{Byte}

-- a buffer's field: its units are the buffer's bytes
abbrev pub in_bytes : ℕ → ℕ → FieldLayout
in_bytes at bits = record { at = at; bits = bits; width = Byte; others = Preserve }

-- the buffer with these bits in the field: each byte has the field's bits there and keeps the
-- others
unfoldable pub stored : ℕ → ℕ → (ℕ → ℕ) → List ℕ → List ℕ
stored at bits bit buffer = map (λ j. mixed (in_bytes at bits) bit j (slice_index buffer j))
    (range_with_len 0 (length buffer))

-- n bits as bytes, zeros behind them in the last one
unfoldable pub bytes_of : ℕ → ℕ → (ℕ → ℕ) → List ℕ
bytes_of size n bit = map (λ m. number 8 (λ i. if nat_lt (m * 8 + i) n then bit (m * 8 + i) else 0))
    (range_with_len 0 size)
