-- What is told of tables that cannot be loaded.
use Rattle.std.specs.Prelude.{◌≡◌, ◌++◌, ℕ, List, [], ◌∷◌, codes, decimal, slice_get, unwrap_or}
use Rattle.aml_objects.specs.declared.fault.LoadCause.{LoadCause}
use Rattle.aml_objects.specs.declared.fault.LoadCause.TheVariants.{Table, Tree, Duplicate, ScopeMissing, TooMany, AliasMissing}
use Rattle.acpi_notes.specs.Text.{joined}
use Rattle.acpi_notes.specs.Table.{table_note}
use Rattle.acpi_notes.specs.declared.table.WantedTable.TheVariants.{Definitions}
use Rattle.acpi_notes.specs.Tree.{tree_note}

-- the bytes of the file with a number
abbrev pub bytes_numbered : List (List ℕ) → ℕ → List ℕ
bytes_numbered tables number = unwrap_or (slice_get tables number) []

-- a path that is defined twice, behind the file of the second definition
unfoldable pub found_note : ℕ → List ℕ → List ℕ → ℕ → List ℕ
found_note at path before place =
    joined (codes ": " ∷ path ∷ codes ", defined at byte " ∷ decimal at
    ∷ codes ", is already defined at byte " ∷ decimal place ∷ codes " of " ∷ before ∷ [])

unfoldable pub too_many_note : List ℕ → ℕ → List ℕ
too_many_note label at = joined (label ∷ codes ": the definition at byte " ∷ decimal at
    ∷ codes " makes a path more than 65535" ∷ [])

-- a text begins with another
abbrev pub BeginsWith : List ℕ → List ℕ → Type 0
BeginsWith front text = (rest : List ℕ) × (text ≡ front ++ rest)

-- what is told of a file, by what is wrong; of its definitions more than the file is told
abbrev pub IsLoadNote : List ℕ → List ℕ → LoadCause → ℕ → List ℕ → Type 0
IsLoadNote label bytes (Table cause) at note = note ≡ table_note label bytes Definitions cause at
IsLoadNote label bytes (Tree cause) at note = note ≡ tree_note label bytes at cause
IsLoadNote label bytes TooMany at note = note ≡ too_many_note label at
IsLoadNote label bytes Duplicate at note = BeginsWith label note
IsLoadNote label bytes ScopeMissing at note = BeginsWith label note
IsLoadNote label bytes AliasMissing at note = BeginsWith label note
