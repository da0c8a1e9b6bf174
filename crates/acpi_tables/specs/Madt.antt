-- The multiple APIC description table (ACPI 6.5, 5.2.12).
use Rattle.std.specs.Prelude.{◌≡◌, ◌≤◌, ◌+◌, ◌%◌, ◌==◌, ℕ, Bool, List, [], ◌∷◌, ◌++◌, length, drop, nat_lt, codes}
use Rattle.std.specs.List.{sum_by}
use Rattle.acpi_tables.specs.Bytes.{number_at}
use Rattle.acpi_tables.specs.Fault.{Check, check}
use Rattle.acpi_tables.specs.Header.{HasHeader}
use Rattle.acpi_tables.specs.Table.{IsTableOf, table_checks}
use Rattle.acpi_tables.specs.Structure.{AreStructures, structures, entries_of}
use Rattle.acpi_tables.specs.declared.entry.Entry.{Entry}
use Rattle.acpi_tables.specs.declared.fault.TableCause.TheVariants.{Short, BadEntry}
use Rattle.acpi_tables.specs.declared.madt.Madt.{Madt}

-- the place where the structures end that follow one another from 44 on
abbrev pub structures_end : List ℕ → ℕ
structures_end bytes = 44 + sum_by length (structures (drop 44 bytes))

-- a table of that signature of at least 44 bytes, with structures to its end
pub record IsMadt (bytes : List ℕ) : Type 0 where
  pub table : IsTableOf (codes "APIC") bytes
  pub long_enough : 44 ≤ length bytes
  pub whole : (ss : List (List ℕ)) × AreStructures ss (drop 44 bytes)

-- what the structures of a MADT that was read say, in order
abbrev pub entries : Madt → List Entry
entries madt = entries_of madt.structures.now

-- its header, its fields, and what its structures say
pub record HasMadt (bytes : List ℕ) (madt : Madt) : Type 0 where
  pub header : HasHeader bytes madt.header
  pub local_address : madt.local_address ≡ number_at 36 4 bytes
  pub flags : madt.flags ≡ number_at 40 4 bytes
  pub entries : entries madt ≡ entries_of (drop 44 bytes)

-- bit 0 of the flags: the platform has the two 8259 controllers of a PC
abbrev pub is_pcat_compatible : ℕ → Bool
is_pcat_compatible flags = flags % 2 == 1

-- what is looked for, in order
abbrev pub madt_checks : List ℕ → List Check
madt_checks bytes =
    table_checks (codes "APIC") bytes
    ++ check (nat_lt (length bytes) 44) Short (length bytes)
    ∷ check (nat_lt (structures_end bytes) (length bytes)) BadEntry (structures_end bytes)
    ∷ []
