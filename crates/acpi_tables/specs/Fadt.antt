-- The fixed ACPI description table (ACPI 6.5, 5.2.9).
use Rattle.std.specs.Prelude.{◌≡◌, ◌+◌, ◌/◌, ◌%◌, ◌^◌, ◌==◌, ℕ, Bool, List, Option, Some, None, length, nat_le, codes, if◌then◌else◌}
use Rattle.acpi_tables.specs.Bytes.{number_at}
use Rattle.acpi_tables.specs.Fault.{Check}
use Rattle.acpi_tables.specs.Header.{HasHeader}
use Rattle.acpi_tables.specs.Table.{IsTableOf, table_checks}
use Rattle.acpi_tables.specs.declared.fadt.Fadt.{Fadt}

-- a table of that signature, however short
abbrev pub IsFadt : List ℕ → Type 0
IsFadt bytes = IsTableOf (codes "FACP") bytes

-- the number at a place, where the bytes reach its end
abbrev pub field_at : ℕ → ℕ → List ℕ → Option ℕ
field_at at size bytes =
    if nat_le (at + size) (length bytes) then Some (number_at at size bytes) else None

-- its header, and the fields that it reaches
pub record HasFadt (bytes : List ℕ) (fadt : Fadt) : Type 0 where
  pub header : HasHeader bytes fadt.header
  pub dsdt : fadt.dsdt ≡ field_at 40 4 bytes
  pub preferred_profile : fadt.preferred_profile ≡ field_at 45 1 bytes
  pub sci_interrupt : fadt.sci_interrupt ≡ field_at 46 2 bytes
  pub flags : fadt.flags ≡ field_at 112 4 bytes
  pub x_dsdt : fadt.x_dsdt ≡ field_at 140 8 bytes

-- bit 20 of the flags: a hardware reduced platform
abbrev pub is_hardware_reduced : ℕ → Bool
is_hardware_reduced flags = flags / 2 ^ 20 % 2 == 1

-- what is looked for, in order
abbrev pub fadt_checks : List ℕ → List Check
fadt_checks bytes = table_checks (codes "FACP") bytes
