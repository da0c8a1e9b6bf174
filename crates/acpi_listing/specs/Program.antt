-- The program: by its words or by standard input, with its status.
use Rattle.std.specs.Prelude.{◌≡◌, ℕ, List, [], ◌∷◌, Option, Result, Ok, Err, Vec, String, map, string_bytes, vec_items}
use Rattle.std.specs.Io.KnownBytes.{Keeps}
use Rattle.acpi_text.specs.declared.writing.RunFault.{RunFault}
use Rattle.acpi_listing.specs.Commands.{Reports, RunsWords, RunsInput}
use Rattle.acpi_sources.specs.Files.{Answers}
use Rattle.acpi_sources.specs.declared.fault.Fault.{Fault}
use Rattle.acpi_sources.specs.declared.status.Status.{Status}
use Rattle.acpi_sources.specs.declared.status.Status.TheVariants as exit

-- a command by words where there are some, and standard input is left alone; else by standard
-- input, and no file is asked for
abbrev pub RunsByWords : {F : Type 0} → Answers F → F → F → List (List ℕ) → Option (List ℕ) →
    Option (List ℕ) → Option (List ℕ) → Option (List ℕ) → Result Status RunFault → Type 0
RunsByWords answers old new [] from to held holds r =
    RunsInput from to held holds r × (new ≡ old)
RunsByWords answers old new (word ∷ words) from to held holds r =
    RunsWords answers (word ∷ words) old new held holds r × (to ≡ from)

-- words that cannot be had are told as a fault, and nothing is read
abbrev pub RunsEither : {F B : Type 0} → Answers F → F → F → Result (Vec (String B) B) Fault →
    Option (List ℕ) → Option (List ℕ) → Option (List ℕ) → Option (List ℕ) → Result Status RunFault →
    Type 0
RunsEither answers old new (Ok words) from to held holds r =
    RunsByWords answers old new (map string_bytes (vec_items words)) from to held holds r
RunsEither answers old new (Err f) from to held holds r =
    Reports f held holds r × (new ≡ old) × (to ≡ from)

-- the status of an end, with the bytes that are left unwritten: that of the command where there are
-- none, else 1
abbrev pub IsStatusOf : Result Status RunFault → List ℕ → Status → Type 0
IsStatusOf (Ok ended) [] status = status ≡ ended
IsStatusOf (Ok ended) (byte ∷ more) status = status ≡ exit.Fault
IsStatusOf (Err _) unwritten status = status ≡ exit.Fault

-- the program: what it prints, of that a beginning where a write fails, and its status
abbrev pub RunsProgram : {F B : Type 0} → Answers F → F → F → Result (Vec (String B) B) Fault →
    Option (List ℕ) → Option (List ℕ) → Option (List ℕ) → Option (List ℕ) → List ℕ → Status → Type 0
RunsProgram answers old new words from to held holds unwritten status =
    (ended : Result Status RunFault) × (between : Option (List ℕ)) ×
    RunsEither answers old new words from to held between ended
    × Keeps between holds × IsStatusOf ended unwritten status
