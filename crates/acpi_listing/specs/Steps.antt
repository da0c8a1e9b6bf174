-- A command is a chain of steps: each writes text, and gives a value or stops the command.
use Rattle.std.specs.Prelude.{◌≡◌, ◌⊎◌, ℕ, List, [], ◌++◌, Option, Result, Ok, Err}
use Rattle.std.specs.Io.KnownBytes.{Appends}
use Rattle.acpi_sources.specs.declared.fault.Fault.{Fault}
use Rattle.acpi_listing.specs.declared.stop.Stop.{Stop}
use Rattle.acpi_listing.specs.declared.stop.Stop.TheVariants.{Fault as Faulty, Run}
use Rattle.acpi_sources.specs.declared.status.Status.{Status}

-- a step: a source of files, what is written, a value or what stops the command, and the source
-- behind it
abbrev pub Step : Type 0 → Type 0 → Type 1
Step F V = F → List ℕ → Result V Stop → F → Type 0

-- a step and then, by its value, another; the first that stops is the end of both
abbrev pub Then : {F V W : Type 0} → Step F V → (V → Step F W) → Step F W
Then first next old text (Ok w) new =
    (v : _) × (mid : _) × (front back : List ℕ) × first old front (Ok v) mid ×
    next v mid back (Ok w) new × (text ≡ front ++ back)
Then first next old text (Err stop) new =
    first old text (Err stop) new
    ⊎ ((v : _) × (mid : _) × (front back : List ℕ) × first old front (Ok v) mid ×
    next v mid back (Err stop) new × (text ≡ front ++ back))

-- a step that writes nothing, and ends with a value or a fault
abbrev pub Quietly : {F V : Type 0} → (F → Result V Fault → F → Type 0) → Step F V
Quietly does old text (Ok v) new = does old (Ok v) new × (text ≡ [])
Quietly does old text (Err (Faulty f)) new = does old (Err f) new × (text ≡ [])
Quietly does old text (Err (Run _)) new = ⊥

-- the same, and the source is left alone
abbrev pub Obtains : {F V : Type 0} → (Result V Fault → Type 0) → Step F V
Obtains is = Quietly (λ old r new. is r × (new ≡ old))

-- the end of a command, with this status
abbrev pub Ends : {F : Type 0} → Status → Step F Status
Ends status = Obtains (λ r. r ≡ Ok status)

-- a text is written; or writing stops the command, behind a beginning of the text
abbrev pub Prints : {F : Type 0} → List ℕ → Step F (Unit {0})
Prints line old text (Ok _) new = (text ≡ line) × (new ≡ old)
Prints line old text (Err (Faulty _)) new = ⊥
Prints line old text (Err (Run _)) new = ((rest : List ℕ) × (line ≡ text ++ rest)) × (new ≡ old)

-- the last text of a command, and its status
abbrev pub Tells : {F : Type 0} → List ℕ → Status → Step F Status
Tells line status = Then (Prints line) (λ _. Ends status)

-- steps that need no source, where there is one
abbrev pub Still : {F V : Type 0} → Step (Unit {0}) V → Step F V
Still does old text r new = does tt text r tt × (new ≡ old)

-- a step is done, and its text stands in the writer behind what that held
abbrev pub Writes : {F V : Type 0} → Step F V → F → F → Option (List ℕ) → Option (List ℕ) →
    Result V Stop → Type 0
Writes does old new held holds r = (text : List ℕ) × does old text r new × Appends held holds text
