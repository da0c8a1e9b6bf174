-- The lines of a MADT's interrupt controller structures (ACPI 6.5, 5.2.12.2 to 5.2.12.13).
use Rattle.std.specs.Prelude.{ℕ, List, [], ◌∷◌, codes, decimal}
use Rattle.acpi_text.specs.Text.{joined, hex}
use Rattle.acpi_tables.specs.declared.entry.Entry.{Entry}
use Rattle.acpi_tables.specs.declared.entry.Entry.TheVariants.{LocalApic, IoApic, InterruptSourceOverride, NmiSource, LocalApicNmi, LocalApicAddressOverride, LocalX2Apic, LocalX2ApicNmi, Other}

-- the line of a structure, by its type
unfoldable pub structure_line : Entry → List ℕ
structure_line (LocalApic uid id flags) =
    joined (codes "  processor uid " ∷ decimal uid ∷ codes " id " ∷ decimal id ∷ codes " flags 0x"
    ∷ hex flags ∷ codes "\n" ∷ [])
structure_line (IoApic id address base) =
    joined (codes "  ioapic id " ∷ decimal id ∷ codes " address 0x" ∷ hex address ∷ codes " base "
    ∷ decimal base ∷ codes "\n" ∷ [])
structure_line (InterruptSourceOverride bus source number flags) =
    joined (codes "  override bus " ∷ decimal bus ∷ codes " source " ∷ decimal source
    ∷ codes " number " ∷ decimal number ∷ codes " flags 0x" ∷ hex flags ∷ codes "\n" ∷ [])
structure_line (NmiSource flags number) =
    joined (codes "  nmi number " ∷ decimal number ∷ codes " flags 0x" ∷ hex flags
    ∷ codes "\n" ∷ [])
structure_line (LocalApicNmi uid flags lint) =
    joined (codes "  local-nmi uid " ∷ decimal uid ∷ codes " lint " ∷ decimal lint
    ∷ codes " flags 0x" ∷ hex flags ∷ codes "\n" ∷ [])
structure_line (LocalApicAddressOverride address) =
    joined (codes "  local-address 0x" ∷ hex address ∷ codes "\n" ∷ [])
structure_line (LocalX2Apic id flags uid) =
    joined (codes "  x2apic uid " ∷ decimal uid ∷ codes " id " ∷ decimal id ∷ codes " flags 0x"
    ∷ hex flags ∷ codes "\n" ∷ [])
structure_line (LocalX2ApicNmi flags uid lint) =
    joined (codes "  x2apic-nmi uid " ∷ decimal uid ∷ codes " lint " ∷ decimal lint
    ∷ codes " flags 0x" ∷ hex flags ∷ codes "\n" ∷ [])
structure_line (Other kind length) =
    joined (codes "  other type " ∷ decimal kind ∷ codes " length " ∷ decimal length
    ∷ codes "\n" ∷ [])
