-- Files that are listed, one after the other.
use Rattle.std.specs.Prelude.{◌≡◌, ◌+◌, ℕ, List, [], ◌∷◌, Some, Result, Ok, Err}
use Rattle.acpi_sources.specs.Faults.{in_table}
use Rattle.acpi_sources.specs.Files.{Answers, Opens}
use Rattle.acpi_sources.specs.Reading.{IsReadable, file_kind, file_checks, Says}
use Rattle.acpi_sources.specs.declared.fault.Fault.{Fault}
use Rattle.acpi_sources.specs.declared.fault.FaultCause.TheVariants as cause
use Rattle.acpi_tables.specs.Fault.{first_fault}
use Rattle.acpi_tables.specs.declared.fault.TableFault.{TableFault}
use Rattle.acpi_text.specs.Tables.{table_text}
use Rattle.acpi_text.specs.declared.table.Table.{Table}
use Rattle.acpi_listing.specs.Steps.{Step, Then, Quietly, Obtains, Ends, Prints}
use Rattle.acpi_sources.specs.declared.status.Status.{Status}
use Rattle.acpi_sources.specs.declared.status.Status.TheVariants as exit

-- a file is read
abbrev pub Reads : {F : Type 0} → Answers F → List ℕ → Step F (List ℕ)
Reads answers name = Quietly (λ old r new. Opens answers old name r new)

-- bytes are such a table, which this says
abbrev pub HoldsTable : List ℕ → Table → Type 0
HoldsTable bytes table =
    IsReadable (file_kind bytes) bytes × Says (file_kind bytes) bytes table

-- the table of a file, or the first fault of the file with that number
abbrev pub ReadsTable : ℕ → List ℕ → Result Table Fault → Type 0
ReadsTable number bytes (Ok table) = HoldsTable bytes table
ReadsTable number bytes (Err f) =
    (t : TableFault) × (first_fault (file_checks (file_kind bytes) bytes) ≡ Some t) ×
    (f ≡ in_table (cause.Table t.cause) number t.at)

-- a file is read, and its table is listed
abbrev pub ListsFile : {F : Type 0} → Answers F → ℕ → List ℕ → Step F (Unit {0})
ListsFile answers number name =
    Then (Reads answers name) (λ bytes.
    Then (Obtains (ReadsTable number bytes)) (λ table.
    Prints (table_text table)))

-- files are listed one after the other
abbrev pub ListsFiles : {F : Type 0} → Answers F → ℕ → List (List ℕ) → Step F Status
ListsFiles answers number [] = Ends exit.Done
ListsFiles answers number (name ∷ names) =
    Then (ListsFile answers number name) (λ _. ListsFiles answers (number + 1) names)
