-- Laws of listing files one after the other.
use Rattle.std.proofs.Common.{◌≡◌, ℕ, ◌+◌, ◌<◌, ◌≤◌, List, [], ◌++◌, Option, Some, Result, Ok, Err, append-nil, refl, sym, ◌∙◌, drop, length, get_or, subst, map}
use Rattle.std.specs.Prelude.{IsErrAnd}
use Rattle.std.specs.Io.KnownBytes.{Appends}
use Rattle.std.proofs.lemmas.List.{drop_all}
use Rattle.acpi_sources.specs.Files.{Answers, Opens}
use Rattle.acpi_sources.proofs.FilesRead.{names_from}
use Rattle.acpi_listing.specs.Files.{HoldsTable, ReadsTable, ListsFile, ListsFiles}
use Rattle.acpi_tables.specs.Fault.{first_fault}
use Rattle.acpi_tables.specs.declared.fault.TableFault.{TableFault}
use Rattle.acpi_listing.specs.Steps.{Step, Obtains, Prints, Then, Writes}
use Rattle.acpi_sources.specs.Reading.{file_kind, file_checks}
use Rattle.acpi_listing.proofs.Chains.{goes_on, stops, quiet, quiet_fault, given, given_fault, printed, cut_off, ended}
use Rattle.acpi_text.specs.Tables.{table_text}
use Rattle.acpi_text.specs.declared.table.Table.{Table}
use Rattle.acpi_text.specs.declared.writing.RunFault.{RunFault}
use Rattle.acpi_sources.specs.declared.fault.Fault.{Fault}
use Rattle.acpi_sources.specs.Faults.{in_table}
use Rattle.acpi_sources.specs.declared.fault.FaultCause.TheVariants as cause
use Rattle.acpi_listing.specs.declared.stop.Stop.{Stop}
use Rattle.acpi_listing.specs.declared.stop.Stop.TheVariants.{Fault as Faulty, Run}
use Rattle.acpi_sources.specs.declared.status.Status.{Status}
use Rattle.acpi_sources.specs.declared.status.Status.TheVariants as exit

-- a file whose table was read is what its printing is
pub file_read : {F : Type 0} (answers : Answers F) (number : ℕ) (name bytes lent : List ℕ) (table : Table) (old new : F) (held holds : Option (List ℕ)) (r : Result (Unit {0}) Stop)
    → lent ≡ bytes → Opens answers old name (Ok bytes) new → HoldsTable lent table
    → Writes (Prints (table_text table)) new new held holds r → Writes (ListsFile answers number name) old new held holds r
file_read answers number name bytes lent table old new held holds r same opens says prints =
    quiet (λ o x n. Opens answers o name x n) (λ b. Then (Obtains (ReadsTable number b)) (λ t. Prints (table_text t))) old new new held holds bytes r opens
    (given (ReadsTable number bytes) (λ t. Prints (table_text t)) new new held holds table r (subst (λ b. HoldsTable b table) same says) prints)

-- the rest of a file's listing, behind its reading
abbrev behind_bytes : {F : Type 0} → ℕ → List ℕ → Step F (Unit {0})
behind_bytes number bytes = Then (Obtains (ReadsTable number bytes)) (λ table. Prints (table_text table))

pub file_unread : {F : Type 0} (answers : Answers F) (number : ℕ) (name : List ℕ) (old new : F) (held : Option (List ℕ)) (f : Fault) (r : Result (Unit {0}) Stop)
    → IsErrAnd r (λ s. s ≡ Faulty f) → Opens answers old name (Err f) new → Writes (ListsFile answers number name) old new held held r
file_unread answers number name old new held f r is opens = quiet_fault (λ o x n. Opens answers o name x n) (behind_bytes number) old new held f r is opens

pub file_faulty : {F : Type 0} (answers : Answers F) (number : ℕ) (name bytes lent : List ℕ) (t : TableFault) (old new : F) (held : Option (List ℕ)) (f : Fault)
    → lent ≡ bytes → Opens answers old name (Ok bytes) new → first_fault (file_checks (file_kind lent) lent) ≡ Some t → f ≡ in_table (cause.Table t.cause) number t.at
    → Writes (ListsFile answers number name) old new held held (Err (Faulty f))
file_faulty answers number name bytes lent t old new held f same opens first is =
    quiet (λ o x n. Opens answers o name x n) (behind_bytes number) old new new held held bytes (Err (Faulty f)) opens
    (given_fault (ReadsTable number bytes) (λ table. Prints (table_text table)) new held f (Err (Faulty f)) refl
    (t, subst (λ b. first_fault (file_checks (file_kind b) b) ≡ Some t) same first, is))

pub file_listed : {F : Type 0} (answers : Answers F) (number : ℕ) (name bytes lent : List ℕ) (table : Table) (old new : F) (held holds : Option (List ℕ)) (u : Unit {0})
    → lent ≡ bytes → Opens answers old name (Ok bytes) new → HoldsTable lent table → Appends held holds (table_text table ++ [])
    → Writes (ListsFile answers number name) old new held holds (Ok u)
file_listed answers number name bytes lent table old new held holds u same opens says wrote =
    file_read answers number name bytes lent table old new held holds (Ok u) same opens says
    (printed new held holds (table_text table) u (subst (Appends held holds) (append-nil (table_text table)) wrote))

pub file_cut : {F : Type 0} (answers : Answers F) (number : ℕ) (name bytes lent : List ℕ) (table : Table) (old new : F) (held holds : Option (List ℕ)) (f : RunFault) (r : Result (Unit {0}) Stop)
    → IsErrAnd r (λ s. s ≡ Run f) → lent ≡ bytes → Opens answers old name (Ok bytes) new → HoldsTable lent table
    → ((front : List ℕ) × (rest : List ℕ) × (table_text table ++ [] ≡ front ++ rest) × Appends held holds front)
    → Writes (ListsFile answers number name) old new held holds r
file_cut answers number name bytes lent table old new held holds f (Ok u) is same opens says part = absurd is
file_cut answers number name bytes lent table old new held holds f (Err s) is same opens says (front, rest, split, wrote) =
    subst (λ stop. Writes (ListsFile answers number name) old new held holds (Err stop)) (sym is)
    (file_read answers number name bytes lent table old new held holds (Err (Run f)) same opens says
    (cut_off new held holds (table_text table) f (front, rest, sym (append-nil (table_text table)) ∙ split, wrote)))

-- the files of the names from one on make the listing of all
abbrev pub LeftFrom : {F X : Type 0} → Answers F → F → (X → List ℕ) → List X → ℕ → F → Option (List ℕ) → Option (List ℕ) → Type 0
LeftFrom answers old now xs i mid held between =
    (new : _) (holds : Option (List ℕ)) (r : Result Status Stop) → Writes (ListsFiles answers i (map now (drop i xs))) mid new between holds r
    → Writes (ListsFiles answers 0 (map now xs)) old new held holds r

-- one more file was listed
pub files_more : {F X : Type 0} (answers : Answers F) (old mid next : F) (now : X → List ℕ) (xs : List X) (i : ℕ) (d : X) (u : Unit {0}) (held between after : Option (List ℕ))
    → i < length xs → LeftFrom answers old now xs i mid held between
    → Writes (ListsFile answers i (now (get_or xs i d))) mid next between after (Ok u)
    → LeftFrom answers old now xs (i + 1) next held after
files_more answers old mid next now xs i d u held between after below left file = λ new holds r rest.
    left new holds r (subst (λ names. Writes (ListsFiles answers i names) mid new between holds r) (sym (names_from now xs i d below))
    (goes_on (ListsFile answers i (now (get_or xs i d))) (λ _. ListsFiles answers (i + 1) (map now (drop (i + 1) xs))) mid next new between after holds u r file rest))

-- all files were listed
pub files_all : {F X : Type 0} (answers : Answers F) (old new : F) (now : X → List ℕ) (xs : List X) (i : ℕ) (held holds : Option (List ℕ))
    → length xs ≤ i → LeftFrom answers old now xs i new held holds → Writes (ListsFiles answers 0 (map now xs)) old new held holds (Ok exit.Done)
files_all answers old new now xs i held holds all left =
    left new holds (Ok exit.Done) (subst (λ rest. Writes (ListsFiles answers i (map now rest)) new new holds holds (Ok exit.Done)) (sym (drop_all i xs all))
    (ended new holds exit.Done exit.Done refl))

-- a file stopped the listing
pub files_stopped : {F X : Type 0} (answers : Answers F) (old mid new : F) (now : X → List ℕ) (xs : List X) (i : ℕ) (d : X) (held between holds : Option (List ℕ)) (e : Stop) (r : Result Status Stop)
    → IsErrAnd r (λ s. s ≡ e) → i < length xs → LeftFrom answers old now xs i mid held between
    → Writes (ListsFile answers i (now (get_or xs i d))) mid new between holds (Err e)
    → Writes (ListsFiles answers 0 (map now xs)) old new held holds r
files_stopped answers old mid new now xs i d held between holds e r is below left file =
    left new holds r (subst (λ names. Writes (ListsFiles answers i names) mid new between holds r) (sym (names_from now xs i d below))
    (stops (ListsFile answers i (now (get_or xs i d))) (λ _. ListsFiles answers (i + 1) (map now (drop (i + 1) xs))) mid new between holds e r is file))
