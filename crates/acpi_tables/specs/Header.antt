-- A table and its header (ACPI 6.5, 5.2.6).
use Rattle.std.specs.Prelude.{◌≡◌, ◌≤◌, ◌%◌, ◌==◌, ℕ, List, [], ◌∷◌, length, sum, nat_lt, not}
use Rattle.acpi_tables.specs.Bytes.{number_at, text_at}
use Rattle.acpi_tables.specs.Fault.{Check, check}
use Rattle.acpi_tables.specs.declared.fault.TableCause.TheVariants.{Short, BadLength, BadSum}
use Rattle.acpi_tables.specs.declared.header.Header.{Header}

-- at least a header, of the length that it says, and a sum of 0 modulo 256
pub record IsTable (bytes : List ℕ) : Type 0 where
  pub long_enough : 36 ≤ length bytes
  pub whole : number_at 4 4 bytes ≡ length bytes
  pub summed : sum bytes % 256 ≡ 0

-- the fields of a header, each the text or the number of the bytes at its place
pub record HasHeader (bytes : List ℕ) (header : Header) : Type 0 where
  pub signature : header.signature.now ≡ text_at 0 4 bytes
  pub length : header.length ≡ number_at 4 4 bytes
  pub revision : header.revision ≡ number_at 8 1 bytes
  pub checksum : header.checksum ≡ number_at 9 1 bytes
  pub oem_id : header.oem_id.now ≡ text_at 10 6 bytes
  pub oem_table_id : header.oem_table_id.now ≡ text_at 16 8 bytes
  pub oem_revision : header.oem_revision ≡ number_at 24 4 bytes
  pub creator_id : header.creator_id.now ≡ text_at 28 4 bytes
  pub creator_revision : header.creator_revision ≡ number_at 32 4 bytes

-- what is looked for in a header, in order
abbrev pub header_checks : List ℕ → List Check
header_checks bytes =
    check (nat_lt (length bytes) 36) Short (length bytes)
    ∷ check (not (number_at 4 4 bytes == length bytes)) BadLength 4
    ∷ check (not (sum bytes % 256 == 0)) BadSum 9
    ∷ []
