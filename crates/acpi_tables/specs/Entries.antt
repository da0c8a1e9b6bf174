-- What the iterators over a table's parts have left.
use Rattle.std.specs.Prelude.{ℕ, List}
use Rattle.acpi_tables.specs.Structure.{entries_of}
use Rattle.acpi_tables.specs.Xsdt.{addresses}
use Rattle.acpi_tables.specs.declared.entry.Entry.{Entry}
use Rattle.acpi_tables.specs.declared.entry.Entries.{Entries}
use Rattle.acpi_tables.specs.declared.xsdt.Addresses.{Addresses}

-- what the structures of a MADT say that are left, in order
abbrev pub entries_left : Entries → List Entry
entries_left iterator = entries_of iterator.rest.now

-- the addresses of an XSDT that are left, in order
abbrev pub addresses_left : Addresses → List ℕ
addresses_left iterator = addresses iterator.rest.now
