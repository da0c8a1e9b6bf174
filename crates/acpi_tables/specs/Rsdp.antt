-- The root system description pointer (ACPI 6.5, 5.2.5.3).
use Rattle.std.specs.Prelude.{◌≡◌, ◌≤◌, ◌%◌, ◌==◌, ◌||◌, ℕ, List, [], ◌∷◌, ◌++◌, Option, Some, None, IsTrue, length, sum, take, nat_eq, nat_lt, not, codes, if◌then◌else◌}
use Rattle.std.specs.List.{starts_with}
use Rattle.acpi_tables.specs.Bytes.{number_at, text_at}
use Rattle.acpi_tables.specs.Fault.{Check, check}
use Rattle.acpi_tables.specs.declared.fault.TableCause.TheVariants.{Short, BadLength, BadSum, BadSignature}
use Rattle.acpi_tables.specs.declared.rsdp.Rsdp.{Rsdp}
use Rattle.acpi_tables.specs.declared.rsdp.RsdpExtension.{RsdpExtension}

-- what stands behind the first 20 bytes: a length of its own within the bytes, and a sum over that
-- length
pub record IsExtended (bytes : List ℕ) : Type 0 where
  pub long_enough : 36 ≤ length bytes
  pub whole : 36 ≤ number_at 20 4 bytes
  pub within : number_at 20 4 bytes ≤ length bytes
  pub summed : sum (take (number_at 20 4 bytes) bytes) % 256 ≡ 0

-- 20 bytes with their signature and a sum of 0 modulo 256
pub record IsFirstPart (bytes : List ℕ) : Type 0 where
  pub long_enough : 20 ≤ length bytes
  pub named : IsTrue (starts_with nat_eq bytes (codes "RSD PTR "))
  pub summed : sum (take 20 bytes) % 256 ≡ 0

-- those 20 bytes, and from revision 2 on the extension; bytes behind it are ignored
pub record IsRsdp (bytes : List ℕ) : Type 0 where
  pub first : IsFirstPart bytes
  pub extended : 2 ≤ number_at 15 1 bytes → IsExtended bytes

-- the extension's fields
abbrev pub extension_at : List ℕ → RsdpExtension
extension_at bytes = record {
  length = number_at 20 4 bytes;
  xsdt_address = number_at 24 8 bytes;
  checksum = number_at 32 1 bytes;
}

-- the extension, which revisions below 2 do not have
abbrev pub extension_of : List ℕ → Option RsdpExtension
extension_of bytes = if nat_lt (number_at 15 1 bytes) 2 then None else Some (extension_at bytes)

-- the fields of such a structure, each the text or the number of the bytes at its place
pub record HasRsdp (bytes : List ℕ) (rsdp : Rsdp) : Type 0 where
  pub checksum : rsdp.checksum ≡ number_at 8 1 bytes
  pub oem_id : rsdp.oem_id.now ≡ text_at 9 6 bytes
  pub revision : rsdp.revision ≡ number_at 15 1 bytes
  pub rsdt_address : rsdp.rsdt_address ≡ number_at 16 4 bytes
  pub extension : rsdp.extension ≡ extension_of bytes

-- what is looked for in the extension, in order
abbrev pub extension_checks : List ℕ → List Check
extension_checks bytes =
    check (nat_lt (length bytes) 36) Short (length bytes)
    ∷ check (nat_lt (number_at 20 4 bytes) 36 || nat_lt (length bytes) (number_at 20 4 bytes))
    BadLength 20
    ∷ check (not (sum (take (number_at 20 4 bytes) bytes) % 256 == 0)) BadSum 32
    ∷ []

-- what is looked for in the first 20 bytes, in order
abbrev pub first_checks : List ℕ → List Check
first_checks bytes =
    check (nat_lt (length bytes) 20) Short (length bytes)
    ∷ check (not (starts_with nat_eq bytes (codes "RSD PTR "))) BadSignature 0
    ∷ check (not (sum (take 20 bytes) % 256 == 0)) BadSum 8
    ∷ []

-- what is looked for behind the first 20 bytes, in order
abbrev pub later_checks : List ℕ → List Check
later_checks bytes = if nat_lt (number_at 15 1 bytes) 2 then [] else extension_checks bytes

-- what is looked for, in order
abbrev pub rsdp_checks : List ℕ → List Check
rsdp_checks bytes = first_checks bytes ++ later_checks bytes
