-- Laws of listing where the interrupts of a _PRT go.
use Rattle.std.proofs.Common.{◌≡◌, ℕ, List, [], ◌++◌, Option, Result, Ok, Err, ap, inl, inr, refl, subst}
use Rattle.std.specs.Prelude.{IsErrAnd}
use Rattle.std.proofs.KnownBytes.{Appends-nil}
use Rattle.acpi_resource_text.specs.Lines.{routes_text}
use Rattle.acpi_resources.specs.Interrupts.{Links, crs_of_links}
use Rattle.acpi_resources.specs.RouteFaults.{RouteFails}
use Rattle.acpi_resources.specs.declared.route.Route.{Route}
use Rattle.acpi_resources.specs.declared.route_fault.RouteFault.{RouteFault}
use Rattle.acpi_resources.specs.declared.route_fault.RouteFault.TheVariants as routes
use Rattle.acpi_routing.specs.Faults.{Answers as Asks}
use Rattle.acpi_routing.specs.Prt.{GivesPrt}
use Rattle.acpi_routing.specs.declared.fault.LinkFault.{LinkFault}
use Rattle.acpi_routing.specs.declared.fault.LinkFault.TheVariants as links
use Rattle.acpi_routing.specs.declared.prt.Prt.{Prt}
use Rattle.acpi_tables.specs.declared.madt.Madt.{Madt}
use Rattle.aml_methods.specs.Judgings.{Told}
use Rattle.aml_meaning.specs.State as State
use Rattle.aml_namespace.specs.Load.{Shown}
use Rattle.aml_namespace.specs.Shows.{shown}
use Rattle.aml_regions.specs.Events.{Event, Log}
use Rattle.aml_regions.specs.Registers.{contents}
use Rattle.aml_registers.specs.Answers.{AreAnswered}
use Rattle.aml_registers.specs.declared.registers.Registers.{Registers}
use Rattle.aml_signatures.specs.Signed.{kinds_told}
use Rattle.aml_signatures.specs.declared.signatures.Signatures.{Signatures}
use Rattle.aml_values.specs.Values.{Elements, Pkg, Value}
use Rattle.aml_values.specs.Views.{view}
use Rattle.aml_values.specs.declared.value.Value as program
use Rattle.aml_values.specs.declared.value.Value.TheVariants as value
use Rattle.aml_verify.specs.declared.checked.Checked.{Checked}
use Rattle.acpi_listing.specs.Commands.{AreStill, AreVerdictsOn, FindsObject, Follows, FollowsNot, IsObjectAt, IsPrtOver, Judges, ListsPrt, ListsRoutes, ListsValue, RoutesLoaded, RoutesTables, link_fault, routes_with}
use Rattle.aml_literal_laws.specs.Laws.{first_names}
use Rattle.acpi_sources.specs.Faults.{route_fault, nowhere, Tries}
use Rattle.acpi_sources.specs.Files.{Answers}
use Rattle.acpi_sources.specs.Inputs.{OpensInputs, tables_of}
use Rattle.acpi_listing.specs.Inputs.{ReadsInputs}
use Rattle.acpi_listing.specs.Loading.{IsNamespace, Loads}
use Rattle.acpi_listing.specs.Madt.{OpensControllers, ReadsControllers, ReadsMadt}
use Rattle.acpi_listing.specs.Registers.{OpensRegisters}
use Rattle.acpi_listing.specs.Signatures.{OpensSignatures, ReadsSignatures}
use Rattle.acpi_listing.specs.Steps.{Step, Then, Obtains, Still, Tells, Writes}
use Rattle.acpi_sources.specs.declared.fault.Fault.{Fault}
use Rattle.acpi_sources.specs.declared.fault.FaultCause.TheVariants as cause
use Rattle.acpi_listing.specs.declared.stop.Stop.{Stop}
use Rattle.acpi_listing.specs.declared.stop.Stop.TheVariants.{Fault as Faulty}
use Rattle.acpi_sources.specs.declared.inputs.InputNames.{InputNames}
use Rattle.acpi_sources.specs.declared.inputs.Inputs.{Inputs}
use Rattle.acpi_listing.proofs.Chains.{given, given_fault, quiet, quiet_fault, still}
use Rattle.acpi_sources.specs.declared.status.Status.{Status}
use Rattle.acpi_sources.specs.declared.status.Status.TheVariants as exit

-- a link that is refused, or want of memory, from what names held and the events before
pub link_told : (bytes : ℕ → ℕ → ℕ) (checked : Checked) (id : ℕ) (held names : State.Names) (had before log : Log) (e : LinkFault) (r : Result Prt Fault)
    → IsErrAnd r (λ f. f ≡ link_fault e) → Asks (λ (prt : Prt). prt) (λ x. GivesPrt checked id x held had names log) (Err e)
    → held ≡ first_names (shown checked.namespace.now) → had ≡ before → AreStill (shown checked.namespace.now) before.events
    → ((events : List Event) → log.events ≡ before.events ++ events → AreAnswered bytes events) → IsPrtOver bytes checked id r
link_told bytes checked id held names had before log e (Ok prt) is gives first same was answers = absurd is
link_told bytes checked id held names had before log links.NoMemory (Err f) is gives first same was answers = inl is
link_told bytes checked id held names had before log (links.Refused refused) (Err f) is gives first same was answers =
    let begun = subst (λ (h : State.Names). GivesPrt checked id (Err refused) h had names log) first gives in
    let gave = subst (λ (b : Log). GivesPrt checked id (Err refused) (first_names (shown checked.namespace.now)) b names log) same begun in
    inr (refused, record { names = names; before = before; log = log; still = was; gives = gave; answered = answers }, is)

-- a fault of a _PRT that has no routes
pub no_routes : {V : Type 0} (gives : V → Type 0) (madt : Option Madt) (links : Links) (prt : Value) (e : RouteFault) (r : Result V Fault)
    → IsErrAnd r (λ f. f ≡ route_fault e) → RouteFails e (routes_with madt links prt) → Tries gives (FollowsNot madt links prt) r
no_routes gives madt links prt e (Ok v) is fails = absurd is
no_routes gives madt links prt routes.NoMemory (Err f) is fails = inl is
no_routes gives madt links prt (routes.Refused refusal) (Err f) is fails = inr (refusal, fails, is)

-- what is no package
pub nothing_given : (held : Option (List ℕ)) (f : Fault) → f ≡ nowhere cause.NotPackage
    → Writes (Obtains {F = Unit {0}} {V = Status} (λ (r : Result Status Fault). r ≡ Err (nowhere cause.NotPackage))) (tt {0}) (tt {0}) held held (Err (Faulty f))
nothing_given held f is = ([], ((ap (λ (e : Fault). Err e) is, refl), refl), Appends-nil held)

pub no_package : (madt : Option Madt) (links : Links) (v : program.Value) (held : Option (List ℕ)) (f : Fault)
    → ((p : Elements) → v ≡ value.Pkg p → ⊥) → f ≡ nowhere cause.NotPackage → Writes (ListsValue madt links (view v)) tt tt held held (Err (Faulty f))
no_package madt links (value.Int n) held f never is = nothing_given held f is
no_package madt links (value.Buf bytes) held f never is = nothing_given held f is
no_package madt links (value.Str characters) held f never is = nothing_given held f is
no_package madt links (value.Pkg elements) held f never is = absurd (never elements refl)

module _ (madt : Option Madt) (links : Links) (elements : Elements) where
  pub no_way : (held : Option (List ℕ)) (f : Fault) (r : Result Status Stop) → IsErrAnd r (λ s. s ≡ Faulty f) → Follows madt links (Pkg elements) (Err f)
      → Writes (ListsValue madt links (Pkg elements)) tt tt held held r
  no_way held f r is fails = given_fault (Follows madt links (Pkg elements)) (λ found. Tells (routes_text found) exit.Done) tt held f r is fails

  pub routes_listed : (found : List Route) (held holds : Option (List ℕ)) (r : Result Status Stop) → routes_with madt links (Pkg elements) ≡ Ok found
      → Writes (Tells (routes_text found) exit.Done) (tt {0}) (tt {0}) held holds r → Writes (ListsValue madt links (Pkg elements)) tt tt held holds r
  routes_listed found held holds r is does = given (Follows madt links (Pkg elements)) (λ all. Tells (routes_text all) exit.Done) tt tt held holds found r is does

-- an object of a namespace
module _ (bytes : ℕ → ℕ → ℕ) (told : Told) (madt : Option Madt) (word : List ℕ) (ns : Shown) where
  abbrev behind_prt : ℕ → Checked → Prt → Step (Unit {0}) Status
  behind_prt id checked prt = ListsPrt madt checked id prt.given (crs_of_links prt.links.items)

  abbrev behind_verdicts : ℕ → Checked → Step (Unit {0}) Status
  behind_verdicts id checked = Then (Obtains (IsPrtOver bytes checked id)) (behind_prt id checked)

  abbrev behind_object : ℕ → Step (Unit {0}) Status
  behind_object id = Then (Obtains (Judges told ns)) (behind_verdicts id)

  pub no_object : (held : Option (List ℕ)) (f : Fault) (r : Result Status Stop) → IsErrAnd r (λ s. s ≡ Faulty f) → FindsObject ns word (Err f)
      → Writes (RoutesLoaded bytes told madt word ns) tt tt held held r
  no_object held f r is none = given_fault (FindsObject ns word) behind_object tt held f r is none

  module _ (id : ℕ) (names : IsObjectAt ns word id) where
    pub no_verdicts : (held : Option (List ℕ)) (f : Fault) (r : Result Status Stop) → IsErrAnd r (λ s. s ≡ Faulty f) → Judges told ns (Err f)
        → Writes (RoutesLoaded bytes told madt word ns) tt tt held held r
    no_verdicts held f r is wants = given (FindsObject ns word) behind_object tt tt held held id r names
        (given_fault (Judges told ns) (behind_verdicts id) tt held f r is wants)

    module _ (checked : Checked) (are : AreVerdictsOn told ns checked) where
      pub not_given : (held : Option (List ℕ)) (f : Fault) (r : Result Status Stop) → IsErrAnd r (λ s. s ≡ Faulty f) → IsPrtOver bytes checked id (Err f)
          → Writes (RoutesLoaded bytes told madt word ns) tt tt held held r
      not_given held f r is wants = given (FindsObject ns word) behind_object tt tt held held id r names
          (given (Judges told ns) (behind_verdicts id) tt tt held held checked r are
          (given_fault (IsPrtOver bytes checked id) (behind_prt id checked) tt held f r is wants))

      pub prt_listed : (prt : Prt) (held holds : Option (List ℕ)) (r : Result Status Stop) → IsPrtOver bytes checked id (Ok prt)
          → Writes (ListsPrt madt checked id prt.given (crs_of_links prt.links.items)) tt tt held holds r
          → Writes (RoutesLoaded bytes told madt word ns) tt tt held holds r
      prt_listed prt held holds r gives does = given (FindsObject ns word) behind_object tt tt held holds id r names
          (given (Judges told ns) (behind_verdicts id) tt tt held holds checked r are
          (given (IsPrtOver bytes checked id) (behind_prt id checked) tt tt held holds prt r gives does))

-- tables that cannot be loaded, and tables that were
module _ (bytes : ℕ → ℕ → ℕ) (told : Told) (madt : Option Madt) (word : List ℕ) (tables : List (List ℕ)) where
  pub no_load : (held : Option (List ℕ)) (f : Fault) (r : Result Status Stop) → IsErrAnd r (λ s. s ≡ Faulty f) → Loads [] tables (Err f)
      → Writes (RoutesTables bytes told madt word tables) tt tt held held r
  no_load held f r is fails = given_fault (Loads [] tables) (λ ns. RoutesLoaded bytes told madt word ns) tt held f r is fails

  pub load_routed : (ns : Shown) (held holds : Option (List ℕ)) (r : Result Status Stop) → IsNamespace [] tables ns
      → Writes (RoutesLoaded bytes told madt word ns) tt tt held holds r → Writes (RoutesTables bytes told madt word tables) tt tt held holds r
  load_routed ns held holds r loaded does = given (Loads [] tables) (λ n. RoutesLoaded bytes told madt word n) tt tt held holds ns r loaded does

-- what stands behind the inputs, behind the MADT, behind its bytes, behind the kinds, and behind the registers
abbrev behind_inputs : {F : Type 0} → Registers → Signatures → Option Madt → List ℕ → Inputs → Step F Status
behind_inputs registers signatures madt word inputs = Still (RoutesTables (contents registers.file) (kinds_told signatures) madt word (tables_of inputs))

abbrev behind_madt : {F : Type 0} → Answers F → InputNames → List ℕ → Registers → Signatures → Option Madt → Step F Status
behind_madt answers names word registers signatures madt = Then (ReadsInputs answers names) (behind_inputs registers signatures madt word)

abbrev behind_bytes : {F : Type 0} → Answers F → InputNames → List ℕ → Registers → Signatures → Option (List ℕ) → Step F Status
behind_bytes answers names word registers signatures bytes = Then (Obtains (ReadsMadt bytes)) (behind_madt answers names word registers signatures)

abbrev behind_kinds : {F : Type 0} → Answers F → InputNames → List ℕ → Option (List ℕ) → Registers → Signatures → Step F Status
behind_kinds answers names word controllers registers signatures =
    Then (ReadsControllers answers controllers) (behind_bytes answers names word registers signatures)

abbrev behind_registers : {F : Type 0} → Answers F → InputNames → List ℕ → Option (List ℕ) → Option (List ℕ) → Registers → Step F Status
behind_registers answers names word kinds controllers registers =
    Then (ReadsSignatures answers kinds) (behind_kinds answers names word controllers registers)

module _ {F : Type 0} (answers : Answers F) (old : F) (names : InputNames) (word : List ℕ) (regs kinds controllers : Option (List ℕ)) where
  abbrev Lists : F → Option (List ℕ) → Option (List ℕ) → Result Status Stop → Type 0
  Lists new held holds r = Writes (ListsRoutes answers names word regs kinds controllers) old new held holds r

  -- registers that cannot be set
  pub no_registers : (new : F) (held : Option (List ℕ)) (f : Fault) (r : Result Status Stop)
      → IsErrAnd r (λ s. s ≡ Faulty f) → OpensRegisters answers old regs (Err f) new → Lists new held held r
  no_registers new held f r is opens =
      quiet_fault (λ o x n. OpensRegisters answers o regs x n) (behind_registers answers names word kinds controllers) old new held f r is opens

  module _ (set : F) (registers : Registers) (sets : OpensRegisters answers old regs (Ok registers) set) where
    behind_set : (new : F) (held holds : Option (List ℕ)) (r : Result Status Stop)
        → Writes (behind_registers answers names word kinds controllers registers) set new held holds r → Lists new held holds r
    behind_set new held holds r does =
        quiet (λ o x n. OpensRegisters answers o regs x n) (behind_registers answers names word kinds controllers) old set new held holds registers r sets does

    -- kinds that cannot be read
    pub no_kinds : (new : F) (held : Option (List ℕ)) (f : Fault) (r : Result Status Stop)
        → IsErrAnd r (λ s. s ≡ Faulty f) → OpensSignatures answers set kinds (Err f) new → Lists new held held r
    no_kinds new held f r is opens = behind_set new held held r
        (quiet_fault (λ o x n. OpensSignatures answers o kinds x n) (behind_kinds answers names word controllers registers) set new held f r is opens)

    module _ (told : F) (signatures : Signatures) (tells : OpensSignatures answers set kinds (Ok signatures) told) where
      behind_told : (new : F) (held holds : Option (List ℕ)) (r : Result Status Stop)
          → Writes (behind_kinds answers names word controllers registers signatures) told new held holds r → Lists new held holds r
      behind_told new held holds r does = behind_set new held holds r
          (quiet (λ o x n. OpensSignatures answers o kinds x n) (behind_kinds answers names word controllers registers) set told new held holds signatures r tells does)

      -- a file of a MADT that cannot be read
      pub no_controllers : (new : F) (held : Option (List ℕ)) (f : Fault) (r : Result Status Stop)
          → IsErrAnd r (λ s. s ≡ Faulty f) → OpensControllers answers told controllers (Err f) new → Lists new held held r
      no_controllers new held f r is opens = behind_told new held held r
          (quiet_fault (λ o x n. OpensControllers answers o controllers x n) (behind_bytes answers names word registers signatures) told new held f r is opens)

      module _ (had : F) (bytes : Option (List ℕ)) (opens : OpensControllers answers told controllers (Ok bytes) had) where
        behind_open : (new : F) (held holds : Option (List ℕ)) (r : Result Status Stop)
            → Writes (behind_bytes answers names word registers signatures bytes) had new held holds r → Lists new held holds r
        behind_open new held holds r does = behind_told new held holds r
            (quiet (λ o x n. OpensControllers answers o controllers x n) (behind_bytes answers names word registers signatures) told had new held holds bytes r opens does)

        -- bytes that are no MADT
        pub no_madt : (held : Option (List ℕ)) (f : Fault) (r : Result Status Stop)
            → IsErrAnd r (λ s. s ≡ Faulty f) → ReadsMadt bytes (Err f) → Lists had held held r
        no_madt held f r is fails = behind_open had held held r
            (given_fault (ReadsMadt bytes) (behind_madt answers names word registers signatures) had held f r is fails)

        module _ (madt : Option Madt) (reads : ReadsMadt bytes (Ok madt)) where
          behind_read : (new : F) (held holds : Option (List ℕ)) (r : Result Status Stop)
              → Writes (behind_madt answers names word registers signatures madt) had new held holds r → Lists new held holds r
          behind_read new held holds r does = behind_open new held holds r
              (given (ReadsMadt bytes) (behind_madt answers names word registers signatures) had new held holds madt r reads does)

          -- inputs that cannot be read, and inputs that were
          pub no_inputs : (new : F) (held : Option (List ℕ)) (f : Fault) (r : Result Status Stop)
              → IsErrAnd r (λ s. s ≡ Faulty f) → OpensInputs answers had names (Err f) new → Lists new held held r
          no_inputs new held f r is fails = behind_read new held held r
              (quiet_fault (λ o x n. OpensInputs answers o names x n) (behind_inputs registers signatures madt word) had new held f r is fails)

          pub inputs_routed : (new : F) (inputs : Inputs) (held holds : Option (List ℕ)) (r : Result Status Stop)
              → OpensInputs answers had names (Ok inputs) new
              → Writes (RoutesTables (contents registers.file) (kinds_told signatures) madt word (tables_of inputs)) tt tt held holds r
              → Lists new held holds r
          inputs_routed new inputs held holds r read does = behind_read new held holds r
              (quiet (λ o x n. OpensInputs answers o names x n) (behind_inputs registers signatures madt word) had new new held holds inputs r read
              (still (RoutesTables (contents registers.file) (kinds_told signatures) madt word (tables_of inputs)) new held holds r does))
