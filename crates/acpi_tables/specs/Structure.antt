-- The interrupt controller structures of a MADT (ACPI 6.5, 5.2.12.2 to 5.2.12.13), each a type, a
-- length and what its type lays out.
use Rattle.std.specs.Prelude.{◌≡◌, ◌≤◌, ◌++◌, ℕ, zero, suc, ◌==◌, ◌&&◌, Bool, List, [], ◌∷◌, length, take, drop, map, slice_index, nat_le, if◌then◌else◌}
use Rattle.acpi_tables.specs.Bytes.{number_at}
use Rattle.acpi_tables.specs.declared.entry.Entry.{Entry}
use Rattle.acpi_tables.specs.declared.entry.Entry.TheVariants.{LocalApic, IoApic, InterruptSourceOverride, NmiSource, LocalApicNmi, LocalApicAddressOverride, LocalX2Apic, LocalX2ApicNmi, Other}

-- how many bytes a type lays out: of a type that is not listed, its type and length alone
unfoldable pub layout_size : ℕ → ℕ
layout_size kind =
    if kind == 0 then 8
    else (if kind == 1 then 12
    else (if kind == 2 then 10
    else (if kind == 3 then 8
    else (if kind == 4 then 6
    else (if kind == 5 then 12
    else (if kind == 9 then 16
    else (if kind == 10 then 12
    else 2)))))))

-- a structure: its second byte is the number of its bytes, which cover its type's layout
pub record IsStructure (bytes : List ℕ) : Type 0 where
  pub least : 2 ≤ length bytes
  pub told : slice_index bytes 1 ≡ length bytes
  pub laid_out : layout_size (slice_index bytes 0) ≤ length bytes

-- these structures, each where the one before it ends, are all the bytes
abbrev pub AreStructures : List (List ℕ) → List ℕ → Type 0
AreStructures [] bytes = bytes ≡ []
AreStructures (s ∷ ss) bytes =
    IsStructure s × ((rest : List ℕ) × (bytes ≡ s ++ rest) × AreStructures ss rest)

-- whether a structure stands at the front: a length that covers the layout and ends within the
-- bytes
unfoldable pub begins_structure : List ℕ → Bool
begins_structure bytes =
    nat_le 2 (length bytes) && nat_le (layout_size (slice_index bytes 0)) (slice_index bytes 1)
    && nat_le (slice_index bytes 1) (length bytes)

-- the structures at the front, so many at most, each where the one before it ends
unfoldable pub structures_up_to : ℕ → List ℕ → List (List ℕ)
structures_up_to zero bytes = []
structures_up_to (suc n) bytes =
    if begins_structure bytes
    then take (slice_index bytes 1) bytes ∷ structures_up_to n (drop (slice_index bytes 1) bytes)
    else []

-- the structures at the front of a list of bytes, which are no more than its bytes
unfoldable pub structures : List ℕ → List (List ℕ)
structures bytes = structures_up_to (length bytes) bytes

-- what a structure of each listed type says
abbrev pub local_apic : List ℕ → Entry
local_apic bytes = LocalApic (number_at 2 1 bytes) (number_at 3 1 bytes) (number_at 4 4 bytes)

abbrev pub io_apic : List ℕ → Entry
io_apic bytes = IoApic (number_at 2 1 bytes) (number_at 4 4 bytes) (number_at 8 4 bytes)

abbrev pub interrupt_source_override : List ℕ → Entry
interrupt_source_override bytes =
    InterruptSourceOverride (number_at 2 1 bytes) (number_at 3 1 bytes) (number_at 4 4 bytes)
    (number_at 8 2 bytes)

abbrev pub nmi_source : List ℕ → Entry
nmi_source bytes = NmiSource (number_at 2 2 bytes) (number_at 4 4 bytes)

abbrev pub local_apic_nmi : List ℕ → Entry
local_apic_nmi bytes =
    LocalApicNmi (number_at 2 1 bytes) (number_at 3 2 bytes) (number_at 5 1 bytes)

abbrev pub local_apic_address_override : List ℕ → Entry
local_apic_address_override bytes = LocalApicAddressOverride (number_at 4 8 bytes)

abbrev pub local_x2apic : List ℕ → Entry
local_x2apic bytes = LocalX2Apic (number_at 4 4 bytes) (number_at 8 4 bytes) (number_at 12 4 bytes)

abbrev pub local_x2apic_nmi : List ℕ → Entry
local_x2apic_nmi bytes =
    LocalX2ApicNmi (number_at 2 2 bytes) (number_at 4 4 bytes) (number_at 8 1 bytes)

-- what a structure says, by its type; of a type that is not listed, its type and length
unfoldable pub entry_of : List ℕ → Entry
entry_of bytes =
    let kind = slice_index bytes 0 in
    if kind == 0 then local_apic bytes
    else (if kind == 1 then io_apic bytes
    else (if kind == 2 then interrupt_source_override bytes
    else (if kind == 3 then nmi_source bytes
    else (if kind == 4 then local_apic_nmi bytes
    else (if kind == 5 then local_apic_address_override bytes
    else (if kind == 9 then local_x2apic bytes
    else (if kind == 10 then local_x2apic_nmi bytes
    else Other kind (slice_index bytes 1))))))))

-- what the structures at the front say, in order
abbrev pub entries_of : List ℕ → List Entry
entries_of bytes = map entry_of (structures bytes)
