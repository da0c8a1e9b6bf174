-- Laws of listing what an object gives.
use Rattle.std.proofs.Common.{◌≡◌, ℕ, List, [], Option, Some, None, Result, Ok, Err, ap, inl, inr, refl}
use Rattle.std.specs.Prelude.{IsErrAnd}
use Rattle.std.proofs.KnownBytes.{Appends-nil}
use Rattle.acpi_objects.specs.declared.given.Given.{Given}
use Rattle.acpi_resource_text.specs.Lines.{items_text}
use Rattle.acpi_resources.specs.Fault.{Fails}
use Rattle.acpi_resources.specs.Items.{items_of}
use Rattle.acpi_resources.specs.declared.fault.ResourceFault.{ResourceFault}
use Rattle.acpi_resources.specs.declared.fault.ResourceFault.TheVariants as resources
use Rattle.acpi_resources.specs.declared.item.Item.{Item}
use Rattle.aml_methods.specs.Judgings.{Told}
use Rattle.aml_namespace.specs.Load.{Shown}
use Rattle.aml_regions.specs.Registers.{contents}
use Rattle.aml_registers.specs.declared.registers.Registers.{Registers}
use Rattle.aml_signatures.specs.Signed.{kinds_told}
use Rattle.aml_signatures.specs.declared.signatures.Signatures.{Signatures}
use Rattle.aml_verify.specs.declared.checked.Checked.{Checked}
use Rattle.acpi_listing.specs.Commands.{AreVerdictsOn, FindsObject, GivesOver, IsGivenOver, IsObjectAt, Judges, ListsGiven, ListsItems, ListsLoaded, ListsResources, ListsTables, ReadsItems, SpellsNoItems}
use Rattle.acpi_sources.specs.Faults.{resource_fault, nowhere, Tries}
use Rattle.acpi_sources.specs.Files.{Answers}
use Rattle.acpi_sources.specs.Inputs.{OpensInputs, tables_of}
use Rattle.acpi_listing.specs.Inputs.{ReadsInputs}
use Rattle.acpi_listing.specs.Loading.{IsNamespace, Loads}
use Rattle.acpi_listing.specs.Registers.{OpensRegisters}
use Rattle.acpi_listing.specs.Signatures.{OpensSignatures, ReadsSignatures}
use Rattle.acpi_listing.specs.Steps.{Step, Then, Obtains, Still, Tells, Writes}
use Rattle.acpi_sources.specs.declared.fault.Fault.{Fault}
use Rattle.acpi_sources.specs.declared.fault.FaultCause.TheVariants as cause
use Rattle.acpi_listing.specs.declared.stop.Stop.{Stop}
use Rattle.acpi_listing.specs.declared.stop.Stop.TheVariants.{Fault as Faulty}
use Rattle.acpi_sources.specs.declared.inputs.InputNames.{InputNames}
use Rattle.acpi_sources.specs.declared.inputs.Inputs.{Inputs}
use Rattle.acpi_listing.proofs.Chains.{given, given_fault, quiet, quiet_fault, still}
use Rattle.acpi_sources.specs.declared.status.Status.{Status}
use Rattle.acpi_sources.specs.declared.status.Status.TheVariants as exit

-- a fault of bytes that spell no items
pub no_items : {V : Type 0} (gives : V → Type 0) (octets : List ℕ) (e : ResourceFault) (r : Result V Fault)
    → IsErrAnd r (λ f. f ≡ resource_fault e) → Fails e (items_of octets) → Tries gives (SpellsNoItems octets) r
no_items gives octets e (Ok v) is fails = absurd is
no_items gives octets resources.NoMemory (Err f) is fails = inl is
no_items gives octets (resources.Refused refusal) (Err f) is fails = inr (refusal, fails, is)

-- what is no buffer
pub no_buffer : (held : Option (List ℕ)) (f : Fault) → f ≡ nowhere cause.NotBuffer → Writes (ListsItems None) tt tt held held (Err (Faulty f))
no_buffer held f is = ([], ((ap (λ e. Err e) is, refl), refl), Appends-nil held)

-- bytes that spell items, or do not
pub no_spelling : (octets : List ℕ) (held : Option (List ℕ)) (f : Fault) (r : Result Status Stop)
    → IsErrAnd r (λ s. s ≡ Faulty f) → ReadsItems octets (Err f) → Writes (ListsItems (Some octets)) tt tt held held r
no_spelling octets held f r is fails = given_fault (ReadsItems octets) (λ items. Tells (items_text items) exit.Done) tt held f r is fails

pub items_listed : (octets : List ℕ) (items : List Item) (held holds : Option (List ℕ)) (r : Result Status Stop)
    → items_of octets ≡ Ok items → Writes (Tells (items_text items) exit.Done) (tt {0}) (tt {0}) held holds r
    → Writes (ListsItems (Some octets)) tt tt held holds r
items_listed octets items held holds r spelled does =
    given (ReadsItems octets) (λ is. Tells (items_text is) exit.Done) tt tt held holds items r spelled does

-- an object of a namespace
module _ (bytes : ℕ → ℕ → ℕ) (told : Told) (word : List ℕ) (ns : Shown) where
  abbrev behind_verdicts : ℕ → Checked → Step (Unit {0}) Status
  behind_verdicts id checked = Then (Obtains (IsGivenOver bytes checked id)) (λ g. ListsGiven checked id g)

  abbrev behind_object : ℕ → Step (Unit {0}) Status
  behind_object id = Then (Obtains (Judges told ns)) (behind_verdicts id)

  pub no_object : (held : Option (List ℕ)) (f : Fault) (r : Result Status Stop) → IsErrAnd r (λ s. s ≡ Faulty f) → FindsObject ns word (Err f)
      → Writes (ListsLoaded bytes told word ns) tt tt held held r
  no_object held f r is none = given_fault (FindsObject ns word) behind_object tt held f r is none

  module _ (id : ℕ) (names : IsObjectAt ns word id) where
    pub no_verdicts : (held : Option (List ℕ)) (f : Fault) (r : Result Status Stop) → IsErrAnd r (λ s. s ≡ Faulty f) → Judges told ns (Err f)
        → Writes (ListsLoaded bytes told word ns) tt tt held held r
    no_verdicts held f r is wants = given (FindsObject ns word) behind_object tt tt held held id r names
        (given_fault (Judges told ns) (behind_verdicts id) tt held f r is wants)

    module _ (checked : Checked) (are : AreVerdictsOn told ns checked) where
      pub not_given : (held : Option (List ℕ)) (f : Fault) (r : Result Status Stop) → IsErrAnd r (λ s. s ≡ Faulty f) → IsGivenOver bytes checked id (Err f)
          → Writes (ListsLoaded bytes told word ns) tt tt held held r
      not_given held f r is wants = given (FindsObject ns word) behind_object tt tt held held id r names
          (given (Judges told ns) (behind_verdicts id) tt tt held held checked r are
          (given_fault (IsGivenOver bytes checked id) (λ g. ListsGiven checked id g) tt held f r is wants))

      pub given_listed : (g : Given) (held holds : Option (List ℕ)) (r : Result Status Stop) → GivesOver bytes checked id g
          → Writes (ListsGiven checked id g) tt tt held holds r → Writes (ListsLoaded bytes told word ns) tt tt held holds r
      given_listed g held holds r gives does = given (FindsObject ns word) behind_object tt tt held holds id r names
          (given (Judges told ns) (behind_verdicts id) tt tt held holds checked r are
          (given (IsGivenOver bytes checked id) (λ x. ListsGiven checked id x) tt tt held holds g r gives does))

-- tables that cannot be loaded, and tables that were
pub no_listed_load : (bytes : ℕ → ℕ → ℕ) (told : Told) (word : List ℕ) (tables : List (List ℕ)) (held : Option (List ℕ)) (f : Fault) (r : Result Status Stop)
    → IsErrAnd r (λ s. s ≡ Faulty f) → Loads [] tables (Err f) → Writes (ListsTables bytes told word tables) tt tt held held r
no_listed_load bytes told word tables held f r is fails = given_fault (Loads [] tables) (λ ns. ListsLoaded bytes told word ns) tt held f r is fails

pub load_listed : (bytes : ℕ → ℕ → ℕ) (told : Told) (word : List ℕ) (tables : List (List ℕ)) (ns : Shown) (held holds : Option (List ℕ)) (r : Result Status Stop)
    → IsNamespace [] tables ns → Writes (ListsLoaded bytes told word ns) tt tt held holds r → Writes (ListsTables bytes told word tables) tt tt held holds r
load_listed bytes told word tables ns held holds r loaded does =
    given (Loads [] tables) (λ n. ListsLoaded bytes told word n) tt tt held holds ns r loaded does

-- what stands behind the inputs, behind the kinds, and behind the registers
abbrev behind_inputs : {F : Type 0} → Registers → Signatures → List ℕ → Inputs → Step F Status
behind_inputs registers signatures word inputs = Still (ListsTables (contents registers.file) (kinds_told signatures) word (tables_of inputs))

abbrev behind_kinds : {F : Type 0} → Answers F → InputNames → List ℕ → Registers → Signatures → Step F Status
behind_kinds answers names word registers signatures = Then (ReadsInputs answers names) (behind_inputs registers signatures word)

abbrev behind_registers : {F : Type 0} → Answers F → InputNames → List ℕ → Option (List ℕ) → Registers → Step F Status
behind_registers answers names word kinds registers = Then (ReadsSignatures answers kinds) (behind_kinds answers names word registers)

module _ {F : Type 0} (answers : Answers F) (old : F) (names : InputNames) (word : List ℕ) (regs kinds : Option (List ℕ)) where
  -- registers that cannot be set
  pub no_registers : (new : F) (held : Option (List ℕ)) (f : Fault) (r : Result Status Stop)
      → IsErrAnd r (λ s. s ≡ Faulty f) → OpensRegisters answers old regs (Err f) new → Writes (ListsResources answers names word regs kinds) old new held held r
  no_registers new held f r is opens =
      quiet_fault (λ o x n. OpensRegisters answers o regs x n) (behind_registers answers names word kinds) old new held f r is opens

  module _ (set : F) (registers : Registers) (sets : OpensRegisters answers old regs (Ok registers) set) where
    -- kinds that cannot be read
    pub no_kinds : (new : F) (held : Option (List ℕ)) (f : Fault) (r : Result Status Stop)
        → IsErrAnd r (λ s. s ≡ Faulty f) → OpensSignatures answers set kinds (Err f) new → Writes (ListsResources answers names word regs kinds) old new held held r
    no_kinds new held f r is opens =
        quiet (λ o x n. OpensRegisters answers o regs x n) (behind_registers answers names word kinds) old set new held held registers r sets
        (quiet_fault (λ o x n. OpensSignatures answers o kinds x n) (behind_kinds answers names word registers) set new held f r is opens)

    module _ (told : F) (signatures : Signatures) (tells : OpensSignatures answers set kinds (Ok signatures) told) where
      -- inputs that cannot be read, and inputs that were
      pub no_inputs : (new : F) (held : Option (List ℕ)) (f : Fault) (r : Result Status Stop)
          → IsErrAnd r (λ s. s ≡ Faulty f) → OpensInputs answers told names (Err f) new → Writes (ListsResources answers names word regs kinds) old new held held r
      no_inputs new held f r is opens =
          quiet (λ o x n. OpensRegisters answers o regs x n) (behind_registers answers names word kinds) old set new held held registers r sets
          (quiet (λ o x n. OpensSignatures answers o kinds x n) (behind_kinds answers names word registers) set told new held held signatures r tells
          (quiet_fault (λ o x n. OpensInputs answers o names x n) (behind_inputs registers signatures word) told new held f r is opens))

      pub inputs_listed : (new : F) (inputs : Inputs) (held holds : Option (List ℕ)) (r : Result Status Stop)
          → OpensInputs answers told names (Ok inputs) new
          → Writes (ListsTables (contents registers.file) (kinds_told signatures) word (tables_of inputs)) tt tt held holds r
          → Writes (ListsResources answers names word regs kinds) old new held holds r
      inputs_listed new inputs held holds r opens does =
          quiet (λ o x n. OpensRegisters answers o regs x n) (behind_registers answers names word kinds) old set new held holds registers r sets
          (quiet (λ o x n. OpensSignatures answers o kinds x n) (behind_kinds answers names word registers) set told new held holds signatures r tells
          (quiet (λ o x n. OpensInputs answers o names x n) (behind_inputs registers signatures word) told new new held holds inputs r opens
          (still (ListsTables (contents registers.file) (kinds_told signatures) word (tables_of inputs)) new held holds r does)))
