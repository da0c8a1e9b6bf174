-- Where an ISA interrupt goes (ACPI 6.5, 5.2.12.5: interrupt source overrides).
use Rattle.std.specs.Prelude.{◌/◌, ◌%◌, ◌==◌, ◌&&◌, ℕ, Bool, true, false, List, Option, Some, find, not}
use Rattle.acpi_tables.specs.declared.entry.Entry.{Entry}
use Rattle.acpi_tables.specs.declared.entry.Entry.TheVariants.{InterruptSourceOverride}
use Rattle.acpi_tables.specs.declared.isa.Isa.{Isa}

-- whether a structure is an override of this source on bus 0, which is ISA
abbrev pub overrides : ℕ → Entry → Bool
overrides source (InterruptSourceOverride bus from number flags) = bus == 0 && from == source
overrides source _ = false

-- the polarity, bits 1:0 of an override's flags: 3 is low and 1 is high; 0 is that of ISA, which is
-- high, and so is 2, which is reserved
abbrev pub is_low : ℕ → Bool
is_low flags = flags % 4 == 3

-- the trigger, bits 3:2: 3 is level and 1 is edge; 0 is that of ISA, which is edge, and so is 2
abbrev pub is_edge : ℕ → Bool
is_edge flags = not (flags / 4 % 4 == 3)

-- where an override sends a source; with none it keeps its number, as ISA has it
abbrev pub route : ℕ → Option Entry → Isa
route source (Some (InterruptSourceOverride bus from number flags)) =
    record { number = number; edge = is_edge flags; low = is_low flags }
route source _ = record { number = source; edge = true; low = false }

-- where a source goes: by the first override of it
abbrev pub isa : List Entry → ℕ → Isa
isa entries source = route source (find (overrides source) entries)
