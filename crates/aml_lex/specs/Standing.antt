-- What stands at a place of the bytes, where something does (ACPI 6.5, 20.2.2 and 20.2.3).
use Rattle.std.specs.Prelude.{◌≡◌, ◌≤◌, ◌==◌, ℕ, Bool, false, List, length, take, drop, slice_get, Option, Some, None, Result, Ok, Err}
use Rattle.aml_lex.specs.declared.fault.LexFault.{LexFault}
use Rattle.aml_lex.specs.NameStrings.{NameString}
use Rattle.aml_lex.specs.Reading.{name_string_at, string_data_at}

abbrev pub is_byte : ℕ → Option ℕ → Bool
is_byte b None = false
is_byte b (Some c) = c == b

-- whether such a byte stands at a place
abbrev pub has_byte : ℕ → List ℕ → ℕ → Bool
has_byte b bytes at = is_byte b (slice_get bytes at)

abbrev pub value_read : {V : Type 0} → Result (V × ℕ) LexFault → Option V
value_read (Ok r) = Some r.0
value_read (Err fault) = None

-- the name string at a place
abbrev pub name_there : List ℕ → ℕ → Option NameString
name_there bytes at = value_read (name_string_at bytes at)

-- the bytes between two places
abbrev pub bytes_between : List ℕ → ℕ → ℕ → List ℕ
bytes_between bytes at stop = drop at (take stop bytes)

-- a name string stands between two places
abbrev pub HasName : List ℕ → ℕ → ℕ → Type 0
HasName bytes at stop = (name : NameString) × (name_string_at bytes at ≡ Ok (name, stop))

-- string data stands between two places
abbrev pub HasText : List ℕ → ℕ → ℕ → Type 0
HasText bytes at stop = (text : List ℕ) × (string_data_at bytes at ≡ Ok (text, stop))

-- two places are in order and within the bytes
abbrev pub HasBytes : List ℕ → ℕ → ℕ → Type 0
HasBytes bytes at stop = (at ≤ stop) × (stop ≤ length bytes)
