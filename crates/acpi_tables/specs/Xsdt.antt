-- The extended system description table (ACPI 6.5, 5.2.8).
use Rattle.std.specs.Prelude.{◌≡◌, ◌-◌, ◌*◌, ◌/◌, ◌%◌, ◌==◌, ℕ, List, [], ◌∷◌, ◌++◌, length, map, drop, not, codes}
use Rattle.std.specs.List.{range_with_len}
use Rattle.acpi_tables.specs.Bytes.{number_at}
use Rattle.acpi_tables.specs.Fault.{Check, check}
use Rattle.acpi_tables.specs.Header.{HasHeader}
use Rattle.acpi_tables.specs.Table.{IsTableOf, table_checks}
use Rattle.acpi_tables.specs.declared.fault.TableCause.TheVariants.{BadEntry}
use Rattle.acpi_tables.specs.declared.xsdt.Xsdt.{Xsdt}

-- a table of that signature whose bytes behind the header are addresses of 8 bytes
pub record IsXsdt (bytes : List ℕ) : Type 0 where
  pub table : IsTableOf (codes "XSDT") bytes
  pub whole : (length bytes - 36) % 8 ≡ 0

-- the addresses of 8 bytes each, from the first byte on
abbrev pub addresses : List ℕ → List ℕ
addresses bytes = map (λ i. number_at (8 * i) 8 bytes) (range_with_len 0 (length bytes / 8))

-- the addresses of an XSDT that was read
abbrev pub listed : Xsdt → List ℕ
listed xsdt = addresses xsdt.entries.now

-- its header, and behind it its addresses
pub record HasXsdt (bytes : List ℕ) (xsdt : Xsdt) : Type 0 where
  pub header : HasHeader bytes xsdt.header
  pub entries : listed xsdt ≡ addresses (drop 36 bytes)

-- what is looked for, in order
abbrev pub xsdt_checks : List ℕ → List Check
xsdt_checks bytes =
    table_checks (codes "XSDT") bytes
    ++ check (not ((length bytes - 36) % 8 == 0)) BadEntry
    (length bytes - (length bytes - 36) % 8) ∷ []
