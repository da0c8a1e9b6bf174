-- What is told of a file that is no table, or another one than is wanted.
use Rattle.std.specs.Prelude.{ℕ, ◌+◌, ◌*◌, ◌%◌, ◌==◌, ◌&&◌, ◌||◌, Bool, List, [], ◌∷◌, codes, decimal, length, min, nat_eq, nat_le, nat_lt, slice_index, sum, take, if◌then◌else◌}
use Rattle.std.specs.List.{list_all, starts_with}
use Rattle.acpi_tables.specs.declared.fault.TableCause.TheVariants.{Short, BadLength, BadSum, BadSignature, BadEntry}
use Rattle.acpi_tables.specs.declared.fault.TableCause.{TableCause}
use Rattle.acpi_notes.specs.Text.{joined, shown_bytes}
use Rattle.acpi_notes.specs.declared.table.WantedTable.{WantedTable}
use Rattle.acpi_notes.specs.declared.table.WantedTable.TheVariants.{Definitions, Madt}

-- the byte at a place, 0 past the end
abbrev pub byte_at : List ℕ → ℕ → ℕ
byte_at bytes at = slice_index bytes at

-- the number of four bytes from a place on, the lowest first
abbrev pub number_at : List ℕ → ℕ → ℕ
number_at bytes at = byte_at bytes at + 256 * byte_at bytes (at + 1)
    + 65536 * (byte_at bytes (at + 2) + 256 * byte_at bytes (at + 3))

-- how many bytes a table says it has: at place 4, of an RSDP at 20
abbrev pub stated : List ℕ → ℕ → ℕ
stated bytes at = if at == 20 then number_at bytes 20 else number_at bytes 4

-- the fewest bytes of a table: of an RSDP 20, or 36 of its later revisions; of a MADT 44; of any
-- other the header's 36
abbrev pub least_of : List ℕ → ℕ
least_of bytes =
    if starts_with nat_eq bytes (codes "RSD PTR ")
    then (if nat_lt (length bytes) 20 then 20 else 36)
    else if starts_with nat_eq bytes (codes "APIC") && nat_le 36 (length bytes) then 44
    else 36

-- the sum modulo 256 of the bytes that a checksum at a place has to make 0: an RSDP has two
abbrev pub summed : List ℕ → ℕ → ℕ
summed bytes at =
    if at == 8 then sum (take (min (length bytes) 20) bytes) % 256
    else if at == 32 then sum (take (min (length bytes) (number_at bytes 20)) bytes) % 256
    else sum bytes % 256

-- a character of a text's lines: a printable one of ASCII, or a tab, LF or CR
abbrev pub is_text_character : ℕ → Bool
is_text_character b = (nat_le 32 b && nat_le b 126) || (b == 9) || (b == 10) || (b == 13)

-- text stands where a table's header would: eight such characters at least, and none else up to 36.
-- Four of them as a table's length are more than 144 MiB
abbrev pub is_text : List ℕ → Bool
is_text bytes =
    nat_le 8 (length bytes) && list_all is_text_character (take (min (length bytes) 36) bytes)

unfoldable pub text_note : List ℕ → List ℕ
text_note label = joined (label
    ∷ codes ": it is text, and no table: acpixtract -a makes tables of a dump, iasl of ASL" ∷ [])

unfoldable pub short_note : List ℕ → ℕ → ℕ → List ℕ
short_note label length least =
    joined (label ∷ codes ": it has " ∷ decimal length ∷ codes " bytes, and such a table has "
    ∷ decimal least ∷ codes " or more" ∷ [])

unfoldable pub length_note : List ℕ → ℕ → ℕ → List ℕ
length_note label length stated =
    joined (label ∷ codes ": its length says " ∷ decimal stated ∷ codes ", and it has "
    ∷ decimal length ∷ codes " bytes" ∷ [])

-- the same of an RSDP, behind which other bytes may stand
unfoldable pub extent_note : List ℕ → ℕ → ℕ → List ℕ
extent_note label length stated =
    joined (label ∷ codes ": its length says " ∷ decimal stated
    ∷ codes ", wanted 36 or more, and no more than its " ∷ decimal length ∷ codes " bytes" ∷ [])

unfoldable pub sum_note : List ℕ → ℕ → ℕ → List ℕ
sum_note label at sum =
    joined (label ∷ codes ": the bytes that the checksum at byte " ∷ decimal at
    ∷ codes " is for sum to " ∷ decimal sum ∷ codes " modulo 256, and 0 is wanted" ∷ [])

-- which table is wanted
abbrev pub wanted_text : WantedTable → List ℕ
wanted_text Definitions = codes "the tables are to be one DSDT, in the first file, and SSDTs behind it"
wanted_text Madt = codes "the file of --madt is to be a MADT, of signature APIC"

unfoldable pub signature_note : List ℕ → List ℕ → List ℕ → List ℕ
signature_note label signature wanted =
    joined (label ∷ codes ": its signature is " ∷ signature ∷ codes ", and " ∷ wanted ∷ [])

unfoldable pub entry_note : List ℕ → ℕ → ℕ → List ℕ
entry_note label at kind =
    joined (label ∷ codes ": the entry at byte " ∷ decimal at ∷ codes ", which begins with "
    ∷ decimal kind ∷ codes ", is cut or too short" ∷ [])

-- of a file that is to have such a table, by what is wrong and where
abbrev pub cause_note : List ℕ → List ℕ → WantedTable → TableCause → ℕ → List ℕ
cause_note label bytes wanted Short at = short_note label (length bytes) (least_of bytes)
cause_note label bytes wanted BadLength at =
    if at == 20 then extent_note label (length bytes) (stated bytes at)
    else length_note label (length bytes) (stated bytes at)
cause_note label bytes wanted BadSum at = sum_note label at (summed bytes at)
cause_note label bytes wanted BadSignature at =
    signature_note label (shown_bytes (take (min (length bytes) 4) bytes)) (wanted_text wanted)
cause_note label bytes wanted BadEntry at = entry_note label at (byte_at bytes at)

-- what is told of such a file
abbrev pub table_note : List ℕ → List ℕ → WantedTable → TableCause → ℕ → List ℕ
table_note label bytes wanted cause at =
    if is_text bytes then text_note label else cause_note label bytes wanted cause at
