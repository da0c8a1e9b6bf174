-- Numbers and texts in a list of bytes (ACPI 6.5, 5.2: numbers are little endian).
use Rattle.std.specs.Prelude.{ℕ, List, take, drop}
use Rattle.byteorder.specs.Endian.{little_number}

-- the number of so many bytes at a place
abbrev pub number_at : ℕ → ℕ → List ℕ → ℕ
number_at at size bytes = little_number size (drop at bytes)

-- the text of so many bytes at a place
abbrev pub text_at : ℕ → ℕ → List ℕ → List ℕ
text_at at size bytes = take size (drop at bytes)
