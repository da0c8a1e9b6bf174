-- What a table says, as it is printed.
use Rattle.std.specs.Prelude.{ℕ, List, [], ◌∷◌, ◌++◌, Bool, true, false, Option, Some, None, codes, decimal}
use Rattle.std.specs.List.{flat_map}
use Rattle.std.specs.Option.{option_map}
use Rattle.acpi_text.specs.Text.{joined, hex, escaped}
use Rattle.acpi_text.specs.Structures.{structure_line}
use Rattle.acpi_text.specs.declared.table.Table.{Table}
use Rattle.acpi_text.specs.declared.table.Table.TheVariants as kind
use Rattle.acpi_tables.specs.Xsdt.{listed}
use Rattle.acpi_tables.specs.Fadt.{is_hardware_reduced}
use Rattle.acpi_tables.specs.Madt.{entries, is_pcat_compatible}
use Rattle.acpi_tables.specs.declared.header.Header.{Header}
use Rattle.acpi_tables.specs.declared.rsdp.Rsdp.{Rsdp}
use Rattle.acpi_tables.specs.declared.rsdp.RsdpExtension.{RsdpExtension}
use Rattle.acpi_tables.specs.declared.fadt.Fadt.{Fadt}
use Rattle.acpi_tables.specs.declared.madt.Madt.{Madt}

-- the words of a line, each behind what leads to it
abbrev pub words : List (List ℕ × List ℕ) → List ℕ
words line = flat_map (λ word. word.0 ++ word.1) line

-- the line of a table by its header
unfoldable pub header_line : Header → List ℕ
header_line header = words (
    (codes "table ", escaped header.signature.now)
    ∷ (codes " length ", decimal header.length)
    ∷ (codes " revision ", decimal header.revision)
    ∷ (codes " oem \"", escaped header.oem_id.now)
    ∷ (codes "\" \"", escaped header.oem_table_id.now)
    ∷ (codes "\" 0x", hex header.oem_revision) ∷ []) ++ codes "\n"

abbrev pub xsdt_part : Option RsdpExtension → List ℕ
xsdt_part None = []
xsdt_part (Some extension) = codes " xsdt 0x" ++ hex extension.xsdt_address

-- the line of an RSDP, from revision 2 on with the XSDT's address
unfoldable pub pointer_line : Rsdp → List ℕ
pointer_line rsdp = joined (
    codes "rsdp revision " ∷ decimal rsdp.revision
    ∷ codes " rsdt 0x" ∷ hex rsdp.rsdt_address
    ∷ xsdt_part rsdp.extension
    ∷ codes "\n" ∷ [])

-- the line of an address in an XSDT
unfoldable pub address_line : ℕ → List ℕ
address_line address = joined (codes "  entry 0x" ∷ hex address ∷ codes "\n" ∷ [])

unfoldable pub decimal_or_absent : Option ℕ → List ℕ
decimal_or_absent None = codes "absent"
decimal_or_absent (Some n) = decimal n

unfoldable pub hex_or_absent : Option ℕ → List ℕ
hex_or_absent None = codes "absent"
hex_or_absent (Some n) = codes "0x" ++ hex n

unfoldable pub yes_or_no : Bool → List ℕ
yes_or_no true = codes "yes"
yes_or_no false = codes "no"

unfoldable pub yes_or_absent : Option Bool → List ℕ
yes_or_absent None = codes "absent"
yes_or_absent (Some b) = yes_or_no b

-- the line of a field: its name and its text
unfoldable pub field_line : List ℕ → List ℕ → List ℕ
field_line name text = joined (codes "  " ∷ name ∷ codes " " ∷ text ∷ codes "\n" ∷ [])

-- the lines of fields, one after the other
abbrev pub field_lines : List (List ℕ × List ℕ) → List ℕ
field_lines fields = flat_map (λ field. field_line field.0 field.1) fields

-- the lines of a FADT's fields
unfoldable pub fixed_lines : Fadt → List ℕ
fixed_lines fadt = field_lines (
    (codes "dsdt", hex_or_absent fadt.dsdt)
    ∷ (codes "profile", decimal_or_absent fadt.preferred_profile)
    ∷ (codes "sci", decimal_or_absent fadt.sci_interrupt)
    ∷ (codes "flags", hex_or_absent fadt.flags)
    ∷ (codes "hardware-reduced", yes_or_absent (option_map is_hardware_reduced fadt.flags))
    ∷ (codes "x_dsdt", hex_or_absent fadt.x_dsdt) ∷ [])

-- the lines of a MADT's own fields
unfoldable pub interrupt_lines : Madt → List ℕ
interrupt_lines madt = field_lines (
    (codes "local", hex_or_absent (Some madt.local_address))
    ∷ (codes "flags", hex_or_absent (Some madt.flags))
    ∷ (codes "pcat", yes_or_no (is_pcat_compatible madt.flags)) ∷ [])

-- what a table says
abbrev pub table_text : Table → List ℕ
table_text (kind.Rsdp rsdp) = pointer_line rsdp
table_text kind.Facs = codes "facs left out\n"
table_text (kind.Xsdt xsdt) = header_line xsdt.header ++ flat_map address_line (listed xsdt)
table_text (kind.Fadt fadt) = header_line fadt.header ++ fixed_lines fadt
table_text (kind.Madt madt) =
    header_line madt.header ++ (interrupt_lines madt ++ flat_map structure_line (entries madt))
table_text (kind.Other header) = header_line header

-- what tables say, one after the other
abbrev pub tables_text : List Table → List ℕ
tables_text tables = flat_map table_text tables
