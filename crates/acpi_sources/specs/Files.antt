-- Files that are read from a source, one after the other.
use Rattle.std.specs.Prelude.{◌≡◌, ◌≤◌, ◌<◌, ◌⊎◌, ℕ, List, [], ◌∷◌, Bool, true, false, length, Result, Ok, Err, Vec, map, vec_items}
use Rattle.acpi_tables.specs.Header.{IsTable}
use Rattle.aml_externals.specs.Table.{table_opened}
use Rattle.acpi_sources.specs.Faults.{nowhere, source_fault}
use Rattle.acpi_sources.specs.declared.fault.Fault.{Fault}
use Rattle.acpi_sources.specs.declared.fault.FaultCause.TheVariants as cause
use Rattle.acpi_sources.specs.declared.source.SourceFault.{SourceFault}

-- a file's bytes, or why there are none
abbrev pub bytes_of : {A E : Type 0} → Result (Vec ℕ A) E → Result (List ℕ) E
bytes_of (Ok bytes) = Ok (vec_items bytes)
bytes_of (Err e) = Err e

-- how sources answer: a source, a name, its answer, and the source behind it
abbrev pub Answers : Type 0 → Type 1
Answers F = F → List ℕ → Result (List ℕ) SourceFault → F → Type 0

-- a table whose Externals in Ifs that never run can be read; what is no table stays
abbrev pub IsOpened : List ℕ → List ℕ → Type 0
IsOpened before after =
    (IsTable before → after ≡ (table_opened before).0) × ((IsTable before → ⊥) → after ≡ before)

-- a table as it is loaded: opened where that is wanted, else as it is
abbrev pub Prepares : Bool → List ℕ → List ℕ → Type 0
Prepares true given bytes = IsOpened given bytes
Prepares false given bytes = bytes ≡ given

-- how a source of tables answers that are to be loaded
abbrev pub prepared : {F : Type 0} → Bool → Answers F → Answers F
prepared dead_externals answers old name (Ok bytes) new =
    (given : List ℕ) × answers old name (Ok given) new × Prepares dead_externals given bytes
prepared dead_externals answers old name (Err e) new = answers old name (Err e) new

-- the most bytes of a file: 16 MiB
abbrev pub limit : ℕ
limit = 16777216

-- a file is read whole; or there is none, or it is too large
abbrev pub Opens : {F : Type 0} → Answers F → F → List ℕ → Result (List ℕ) Fault → F → Type 0
Opens answers old name (Ok bytes) new = answers old name (Ok bytes) new × (length bytes ≤ limit)
Opens answers old name (Err f) new =
    ((e : SourceFault) × answers old name (Err e) new × (f ≡ source_fault e))
    ⊎ ((bytes : List ℕ) × answers old name (Ok bytes) new × (limit < length bytes)
    × (f ≡ nowhere cause.File))

-- files are read one after the other, up to the first that cannot be had; before each, memory may
-- be wanted
abbrev pub OpensAll : {F : Type 0} → Answers F → F → List (List ℕ) →
    Result (List (List ℕ)) Fault → F → Type 0
OpensAll answers old [] (Ok all) new = (all ≡ []) × (new ≡ old)
OpensAll answers old (name ∷ names) (Ok all) new =
    (bytes : List ℕ) × (mid : _) × (more : List (List ℕ)) × Opens answers old name (Ok bytes) mid
    × OpensAll answers mid names (Ok more) new × (all ≡ bytes ∷ more)
OpensAll answers old [] (Err f) new = (f ≡ nowhere cause.NoMemory) × (new ≡ old)
OpensAll answers old (name ∷ names) (Err f) new =
    ((f ≡ nowhere cause.NoMemory) × (new ≡ old)) ⊎ (Opens answers old name (Err f) new
    ⊎ ((bytes : List ℕ) × (mid : _) × Opens answers old name (Ok bytes) mid
    × OpensAll answers mid names (Err f) new))

-- the bytes of files that were read
abbrev pub files_of : {A B E : Type 0} → Result (Vec (Vec ℕ A) B) E → Result (List (List ℕ)) E
files_of (Ok files) = Ok (map vec_items (vec_items files))
files_of (Err e) = Err e
