-- Laws of judging methods.
use Rattle.std.proofs.Common.{◌≡◌, ℕ, List, [], Option, Result, Ok, Err}
use Rattle.std.specs.Prelude.{IsErrAnd}
use Rattle.aml_methods.specs.Judgings.{Told}
use Rattle.aml_namespace.specs.Load.{Shown}
use Rattle.aml_signatures.specs.Signed.{kinds_told}
use Rattle.aml_signatures.specs.declared.signatures.Signatures.{Signatures}
use Rattle.aml_verify.specs.declared.checked.Checked.{Checked}
use Rattle.acpi_verdicts.specs.Verdicts.{verdicts_text}
use Rattle.acpi_listing.specs.Commands.{AreVerdictsOn, Judges, VerifiesFiles, VerifiesLoaded, VerifiesTables, verdicts_status}
use Rattle.acpi_sources.specs.Files.{Answers}
use Rattle.acpi_sources.specs.Inputs.{OpensInputs, tables_of}
use Rattle.acpi_listing.specs.Inputs.{ReadsInputs}
use Rattle.acpi_listing.specs.Loading.{IsNamespace, Loads}
use Rattle.acpi_listing.specs.Signatures.{OpensSignatures}
use Rattle.acpi_listing.specs.Steps.{Step, Then, Still, Tells, Writes}
use Rattle.acpi_sources.specs.declared.fault.Fault.{Fault}
use Rattle.acpi_listing.specs.declared.stop.Stop.{Stop}
use Rattle.acpi_listing.specs.declared.stop.Stop.TheVariants.{Fault as Faulty}
use Rattle.acpi_sources.specs.declared.inputs.InputNames.{InputNames}
use Rattle.acpi_sources.specs.declared.inputs.Inputs.{Inputs}
use Rattle.acpi_listing.proofs.Chains.{given, given_fault, quiet, quiet_fault, still}
use Rattle.acpi_sources.specs.declared.status.Status.{Status}

-- what stands behind the verdicts
abbrev behind_verdicts : Checked → Step (Unit {0}) Status
behind_verdicts checked = Tells (verdicts_text checked) (verdicts_status checked)

-- methods that memory is wanted for
pub no_verdicts : (told : Told) (ns : Shown) (held : Option (List ℕ)) (f : Fault) (r : Result Status Stop)
    → IsErrAnd r (λ s. s ≡ Faulty f) → Judges told ns (Err f) → Writes (VerifiesLoaded told ns) tt tt held held r
no_verdicts told ns held f r is wants = given_fault (Judges told ns) behind_verdicts tt held f r is wants

-- verdicts that are listed
pub verdicts_listed : (told : Told) (ns : Shown) (checked : Checked) (held holds : Option (List ℕ)) (r : Result Status Stop)
    → AreVerdictsOn told ns checked → Writes (behind_verdicts checked) tt tt held holds r
    → Writes (VerifiesLoaded told ns) tt tt held holds r
verdicts_listed told ns checked held holds r are does = given (Judges told ns) behind_verdicts tt tt held holds checked r are does

-- tables that cannot be loaded
pub no_judged_load : (told : Told) (tables : List (List ℕ)) (held : Option (List ℕ)) (f : Fault) (r : Result Status Stop)
    → IsErrAnd r (λ s. s ≡ Faulty f) → Loads [] tables (Err f) → Writes (VerifiesTables told tables) tt tt held held r
no_judged_load told tables held f r is fails = given_fault (Loads [] tables) (λ ns. VerifiesLoaded told ns) tt held f r is fails

-- tables that were loaded
pub load_judged : (told : Told) (tables : List (List ℕ)) (ns : Shown) (held holds : Option (List ℕ)) (r : Result Status Stop)
    → IsNamespace [] tables ns → Writes (VerifiesLoaded told ns) tt tt held holds r
    → Writes (VerifiesTables told tables) tt tt held holds r
load_judged told tables ns held holds r loaded does = given (Loads [] tables) (λ n. VerifiesLoaded told n) tt tt held holds ns r loaded does

-- what stands behind the inputs, and behind the kinds
abbrev behind_judged_inputs : {F : Type 0} → Signatures → Inputs → Step F Status
behind_judged_inputs signatures inputs = Still (VerifiesTables (kinds_told signatures) (tables_of inputs))

abbrev behind_kinds : {F : Type 0} → Answers F → InputNames → Signatures → Step F Status
behind_kinds answers names signatures = Then (ReadsInputs answers names) (behind_judged_inputs signatures)

-- kinds that cannot be read
pub no_kinds : {F : Type 0} (answers : Answers F) (old new : F) (names : InputNames) (kinds : Option (List ℕ)) (held : Option (List ℕ)) (f : Fault) (r : Result Status Stop)
    → IsErrAnd r (λ s. s ≡ Faulty f) → OpensSignatures answers old kinds (Err f) new → Writes (VerifiesFiles answers names kinds) old new held held r
no_kinds answers old new names kinds held f r is opens = quiet_fault (λ o x n. OpensSignatures answers o kinds x n) (behind_kinds answers names) old new held f r is opens

-- inputs that cannot be read
pub no_judged_inputs : {F : Type 0} (answers : Answers F) (old told new : F) (names : InputNames) (kinds : Option (List ℕ)) (signatures : Signatures) (held : Option (List ℕ)) (f : Fault) (r : Result Status Stop)
    → IsErrAnd r (λ s. s ≡ Faulty f) → OpensSignatures answers old kinds (Ok signatures) told → OpensInputs answers told names (Err f) new
    → Writes (VerifiesFiles answers names kinds) old new held held r
no_judged_inputs answers old told new names kinds signatures held f r is tells opens =
    quiet (λ o x n. OpensSignatures answers o kinds x n) (behind_kinds answers names) old told new held held signatures r tells
    (quiet_fault (λ o x n. OpensInputs answers o names x n) (behind_judged_inputs signatures) told new held f r is opens)

-- inputs that were read
pub inputs_judged : {F : Type 0} (answers : Answers F) (old told new : F) (names : InputNames) (kinds : Option (List ℕ)) (signatures : Signatures) (inputs : Inputs) (held holds : Option (List ℕ)) (r : Result Status Stop)
    → OpensSignatures answers old kinds (Ok signatures) told → OpensInputs answers told names (Ok inputs) new
    → Writes (VerifiesTables (kinds_told signatures) (tables_of inputs)) tt tt held holds r
    → Writes (VerifiesFiles answers names kinds) old new held holds r
inputs_judged answers old told new names kinds signatures inputs held holds r tells opens does =
    quiet (λ o x n. OpensSignatures answers o kinds x n) (behind_kinds answers names) old told new held holds signatures r tells
    (quiet (λ o x n. OpensInputs answers o names x n) (behind_judged_inputs signatures) told new new held holds inputs r opens
    (still (VerifiesTables (kinds_told signatures) (tables_of inputs)) new held holds r does))
