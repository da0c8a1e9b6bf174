-- Parts without parts, read at a place (ACPI 6.5, 20.2.2 to 20.2.4): what the lexical layer reads,
-- and numbers.
use Rattle.std.specs.Prelude.{ℕ, ◌+◌, List, length, drop, Option, Some, None, Result, Ok, Err, nat_lt, slice_get, if◌then◌else◌}
use Rattle.byteorder.specs.Endian.{little_number}
use Rattle.aml_lex.specs.NameStrings.{NameString}
use Rattle.aml_lex.specs.Reading.{package_end_at, pkg_length_at, name_string_at, string_data_at}
use Rattle.aml_tree.specs.declared.fault.Refusal.{Refusal}
use Rattle.aml_tree.specs.Fault.{truncated, refused}

abbrev pub byte_or : ℕ → Option ℕ → Result ℕ Refusal
byte_or end None = Err (truncated end)
byte_or end (Some b) = Ok b

-- the byte at a place
unfoldable pub byte_at : List ℕ → ℕ → Result ℕ Refusal
byte_at bytes at = byte_or (length bytes) (slice_get bytes at)

-- the end of a package whose PkgLength stands at a place, and the place behind the PkgLength
unfoldable pub end_at : List ℕ → ℕ → Result (ℕ × ℕ) Refusal
end_at bytes at = refused (package_end_at bytes at)

-- a name string, and the place behind it
unfoldable pub name_at : List ℕ → ℕ → Result (NameString × ℕ) Refusal
name_at bytes at = refused (name_string_at bytes at)

-- a number of bits, and the place behind it
unfoldable pub bits_at : List ℕ → ℕ → Result (ℕ × ℕ) Refusal
bits_at bytes at = refused (pkg_length_at bytes at)

-- a text, and the place behind its 00
unfoldable pub text_at : List ℕ → ℕ → Result (List ℕ × ℕ) Refusal
text_at bytes at = refused (string_data_at bytes at)

-- a little endian number of so many bytes, and the place behind it
unfoldable pub little_endian_at : ℕ → List ℕ → ℕ → Result (ℕ × ℕ) Refusal
little_endian_at count bytes at =
    if nat_lt (length bytes) (at + count) then Err (truncated (length bytes))
    else Ok (little_number count (drop at bytes), at + count)
