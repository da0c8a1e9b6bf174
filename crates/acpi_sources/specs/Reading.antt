-- Which table a file is, by its first bytes, and what it says.
use Rattle.std.specs.Prelude.{ℕ, List, [], ⊤, Bool, nat_eq, codes, if◌then◌else◌}
use Rattle.std.specs.List.{starts_with}
use Rattle.acpi_text.specs.declared.table.Table.{Table}
use Rattle.acpi_text.specs.declared.table.Table.TheVariants as table
use Rattle.acpi_sources.specs.declared.any_table.FileKind.{FileKind}
use Rattle.acpi_sources.specs.declared.any_table.FileKind.TheVariants as kind
use Rattle.acpi_tables.specs.Fault.{Check}
use Rattle.acpi_tables.specs.Header.{IsTable, HasHeader, header_checks}
use Rattle.acpi_tables.specs.Rsdp.{IsRsdp, HasRsdp, rsdp_checks}
use Rattle.acpi_tables.specs.Xsdt.{IsXsdt, HasXsdt, xsdt_checks}
use Rattle.acpi_tables.specs.Fadt.{IsFadt, HasFadt, fadt_checks}
use Rattle.acpi_tables.specs.Madt.{IsMadt, HasMadt, madt_checks}

-- whether a file begins with a text
abbrev pub begins : List ℕ → List ℕ → Bool
begins bytes text = starts_with nat_eq bytes text

-- which table a file is, by the text that it begins with
abbrev pub file_kind : List ℕ → FileKind
file_kind bytes =
    if begins bytes (codes "RSD PTR ") then kind.Rsdp
    else (if begins bytes (codes "FACS") then kind.Facs
    else (if begins bytes (codes "XSDT") then kind.Xsdt
    else (if begins bytes (codes "FACP") then kind.Fadt
    else (if begins bytes (codes "APIC") then kind.Madt
    else kind.Other))))

-- whether a file of a kind can be read: an FACS always, as it is left out
abbrev pub IsReadable : FileKind → List ℕ → Type 0
IsReadable kind.Rsdp bytes = IsRsdp bytes
IsReadable kind.Facs bytes = ⊤
IsReadable kind.Xsdt bytes = IsXsdt bytes
IsReadable kind.Fadt bytes = IsFadt bytes
IsReadable kind.Madt bytes = IsMadt bytes
IsReadable kind.Other bytes = IsTable bytes

-- what a file of a kind says
abbrev pub Says : FileKind → List ℕ → Table → Type 0
Says kind.Rsdp bytes (table.Rsdp rsdp) = HasRsdp bytes rsdp
Says kind.Facs bytes table.Facs = ⊤
Says kind.Xsdt bytes (table.Xsdt xsdt) = HasXsdt bytes xsdt
Says kind.Fadt bytes (table.Fadt fadt) = HasFadt bytes fadt
Says kind.Madt bytes (table.Madt madt) = HasMadt bytes madt
Says kind.Other bytes (table.Other header) = HasHeader bytes header
Says _ bytes _ = ⊥

-- what is looked for in a file of a kind, in order
abbrev pub file_checks : FileKind → List ℕ → List Check
file_checks kind.Rsdp bytes = rsdp_checks bytes
file_checks kind.Facs bytes = []
file_checks kind.Xsdt bytes = xsdt_checks bytes
file_checks kind.Fadt bytes = fadt_checks bytes
file_checks kind.Madt bytes = madt_checks bytes
file_checks kind.Other bytes = header_checks bytes
