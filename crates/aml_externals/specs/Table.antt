-- A whole table whose dead Ifs are opened (ACPI 6.5, 5.2.6 and 20.2.1).
use Rattle.std.specs.Prelude.{ℕ, ◌+◌, ◌*◌, ◌%◌, Bool, List, slice_index, slice_set}
use Rattle.aml_tree.specs.Body.{module_start}
use Rattle.aml_externals.specs.Opened.{Opened, entered, opened, dead_inside, dead_in}

-- how many definitions of a module stand one in another, where another may stand in the innermost:
-- a term has depth 64 at most
abbrev pub greatest_lists : ℕ
greatest_lists = 63

-- a Scope's opcode is 90 below an If's, so the checksum at place 9 is 90 higher for each
abbrev pub with_checksum : Opened → Opened
with_checksum r = (slice_set r.0 9 ((slice_index r.0 9 + 0x90 * r.1) % 256), r.1)

-- the table's header stays, and behind it stands its list of definitions
unfoldable pub table_opened : List ℕ → Opened
table_opened bytes = with_checksum (entered (opened greatest_lists) module_start bytes)

-- whether a dead If begins at a place of a table
unfoldable pub dead_at : List ℕ → ℕ → Bool
dead_at bytes at = dead_inside (dead_in greatest_lists) module_start bytes at
