-- Laws of listing names and of evaluating methods.
use Rattle.std.proofs.Common.{◌≡◌, ◌∙◌, ℕ, List, [], map, Bool, Bor, Option, Some, None, Result, Ok, Err, ap, refl, subst, sym}
use Rattle.std.specs.Prelude.{IsErrAnd, false, true}
use Rattle.aml_objects.specs.declared.object.Method.{Method}
use Rattle.aml_namespace.specs.Load.{Shown}
use Rattle.aml_namespace.specs.Names.{IsBodyOf}
use Rattle.aml_namespace.specs.Shows.{bytes_in}
use Rattle.aml_operators.specs.Tree.{Tree, trees}
use Rattle.aml_values.specs.Values.{Value}
use Rattle.aml_meaning.specs.declared.outcome.Outcome.{Outcome}
use Rattle.aml_regions.specs.Events.{Event}
use Rattle.aml_tree.specs.declared.fault.Refusal.{Refusal}
use Rattle.acpi_text.specs.Names.{names_text}
use Rattle.acpi_words.specs.Arguments.{ListsArguments}
use Rattle.acpi_sources.specs.Files.{Answers}
use Rattle.acpi_sources.specs.Inputs.{OpensInputs, tables_of}
use Rattle.acpi_listing.specs.Inputs.{ReadsInputs}
use Rattle.acpi_listing.specs.Loading.{IsNamespace, Loads, interfaces_of}
use Rattle.acpi_listing.specs.Registers.{OpensRegisters, ReadsRegisters}
use Rattle.acpi_listing.specs.Signatures.{OpensSignatures, ReadsSignatures}
use Rattle.acpi_verdicts.specs.Verdicts.{said_of, said_text}
use Rattle.aml_known.specs.Views.{kinds_of}
use Rattle.aml_known.specs.declared.accepted.Accepted.{Accepted}
use Rattle.aml_shapes.specs.Numbers.{numbered}
use Rattle.aml_values.specs.Views.{view}
use Rattle.aml_values.specs.declared.value.Value as held
use Rattle.aml_verify.specs.Accepts.{accepts_by, all_fit}
use Rattle.aml_verify.specs.Said.{accepted_by, verdict_at}
use Rattle.aml_methods.specs.Judgings.{Told}
use Rattle.aml_signatures.specs.Signed.{kinds_told}
use Rattle.aml_signatures.specs.declared.signatures.Signatures.{Signatures}
use Rattle.aml_verify.specs.declared.checked.Checked.{Checked}
use Rattle.aml_verify.specs.declared.verdict.Verdict.{Verdict}
use Rattle.aml_verify.specs.declared.verdict.Verdict.TheVariants as verdict
use Rattle.aml_regions.specs.Registers.{contents}
use Rattle.aml_registers.specs.declared.registers.Registers.{Registers}
use Rattle.acpi_listing.specs.Steps.{Step, Then, Obtains, Still, Tells, Writes}
use Rattle.acpi_listing.specs.Commands.{Accepts, AreVerdictsOn, EvaluatesBody, EvaluatesFiles, EvaluatesFound, EvaluatesJudged, EvaluatesMethod, EvaluatesTables, Finds, Fit, IsDone, IsMeant, IsMethodAt, Judges, ListsNames, ReadsArguments, ReadsBody, Takes, evaluation_text, is_accepted, outcome_status}
use Rattle.acpi_sources.specs.declared.fault.Fault.{Fault}
use Rattle.acpi_listing.specs.declared.stop.Stop.{Stop}
use Rattle.acpi_listing.specs.declared.stop.Stop.TheVariants.{Fault as Faulty}
use Rattle.acpi_sources.specs.declared.inputs.InputNames.{InputNames}
use Rattle.acpi_sources.specs.declared.inputs.Inputs.{Inputs}
use Rattle.acpi_listing.proofs.Chains.{given, given_fault, quiet, quiet_fault, still}
use Rattle.acpi_sources.specs.declared.status.Status.{Status}
use Rattle.acpi_sources.specs.declared.status.Status.TheVariants as exit

-- a namespace with texts that are these
pub known_texts : (interfaces : List (List ℕ)) (tables : List (List ℕ)) (ns : Shown) (passed known : List (Bor (List ℕ)))
    → passed ≡ known → bytes_in known ≡ interfaces → IsNamespace (bytes_in passed) tables ns → IsNamespace interfaces tables ns
known_texts interfaces tables ns passed known same are loaded = (loaded.0, loaded.1 ∙ ap bytes_in same ∙ are)

-- behind the load and the method
pub after_find : (bytes : ℕ → ℕ → ℕ) (told : Told) (word : List ℕ) (arguments : List Value) (steps : Option ℕ) (interfaces : List (List ℕ)) (tables : List (List ℕ)) (ns : Shown) (id : ℕ) (m : Method) (held holds : Option (List ℕ)) (r : Result Status Stop)
    → IsNamespace interfaces tables ns → IsMethodAt ns word id m
    → Writes (EvaluatesFound bytes told ns arguments steps (id, m)) tt tt held holds r
    → Writes (EvaluatesTables bytes told word arguments steps interfaces tables) tt tt held holds r
after_find bytes told word arguments steps interfaces tables ns id m held holds r loaded names does =
    given (Loads interfaces tables) (λ n. Then (Obtains (Finds n word)) (EvaluatesFound bytes told n arguments steps)) tt tt held holds ns r loaded
    (given (Finds ns word) (EvaluatesFound bytes told ns arguments steps) tt tt held holds (id, m) r names does)

-- tables that cannot be loaded, and a path that no method has
pub no_tables : (bytes : ℕ → ℕ → ℕ) (told : Told) (word : List ℕ) (arguments : List Value) (steps : Option ℕ) (interfaces : List (List ℕ)) (tables : List (List ℕ)) (held : Option (List ℕ)) (f : Fault) (r : Result Status Stop)
    → IsErrAnd r (λ s. s ≡ Faulty f) → Loads interfaces tables (Err f)
    → Writes (EvaluatesTables bytes told word arguments steps interfaces tables) tt tt held held r
no_tables bytes told word arguments steps interfaces tables held f r is fails =
    given_fault (Loads interfaces tables) (λ n. Then (Obtains (Finds n word)) (EvaluatesFound bytes told n arguments steps)) tt held f r is fails

pub no_method : (bytes : ℕ → ℕ → ℕ) (told : Told) (word : List ℕ) (arguments : List Value) (steps : Option ℕ) (interfaces : List (List ℕ)) (tables : List (List ℕ)) (ns : Shown) (held : Option (List ℕ)) (f : Fault) (r : Result Status Stop)
    → IsErrAnd r (λ s. s ≡ Faulty f) → IsNamespace interfaces tables ns → Finds ns word (Err f)
    → Writes (EvaluatesTables bytes told word arguments steps interfaces tables) tt tt held held r
no_method bytes told word arguments steps interfaces tables ns held f r is loaded none =
    given (Loads interfaces tables) (λ n. Then (Obtains (Finds n word)) (EvaluatesFound bytes told n arguments steps)) tt tt held held ns r loaded
    (given_fault (Finds ns word) (EvaluatesFound bytes told ns arguments steps) tt held f r is none)

-- a method's body that was read, or cannot be
module _ (bytes : ℕ → ℕ → ℕ) (ns : Shown) (id : ℕ) (m : Method) (arguments : List Value) (steps : ℕ) where
  pub no_body : (held : Option (List ℕ)) (f : Fault) (r : Result Status Stop) → IsErrAnd r (λ s. s ≡ Faulty f) → ReadsBody ns id m (Err f)
      → Writes (EvaluatesMethod bytes ns arguments steps (id, m)) tt tt held held r
  no_body held f r is fails = given_fault (ReadsBody ns id m) (EvaluatesBody bytes ns (id, m) arguments steps) tt held f r is fails

  pub after_body : (body : Result (List Tree) Refusal) (held holds : Option (List ℕ)) (r : Result Status Stop) → ReadsBody ns id m (Ok body)
      → Writes (EvaluatesBody bytes ns (id, m) arguments steps body) tt tt held holds r
      → Writes (EvaluatesMethod bytes ns arguments steps (id, m)) tt tt held holds r
  after_body body held holds r reads does = given (ReadsBody ns id m) (EvaluatesBody bytes ns (id, m) arguments steps) tt tt held holds body r reads does

  module _ (ts : List Tree) (body : IsBodyOf ns id m ts) where
    abbrev behind_outcome : Outcome × List Event → Step (Unit {0}) Status
    behind_outcome o = Tells (evaluation_text ns.entries o) (outcome_status o.0)

    abbrev behind_fit : Unit {0} → Step (Unit {0}) Status
    behind_fit _ = Then (Obtains (IsMeant ns bytes id m (trees ts) arguments steps)) behind_outcome

    -- arguments that do not fit
    pub no_fit : (held : Option (List ℕ)) (f : Fault) (r : Result Status Stop) → IsErrAnd r (λ s. s ≡ Faulty f) → Fit ns m arguments (Err f)
        → Writes (EvaluatesMethod bytes ns arguments steps (id, m)) tt tt held held r
    no_fit held f r is fails = after_body (Ok ts) held held r body (given_fault (Fit ns m arguments) behind_fit (tt {0}) held f r is fails)

    -- an evaluation that wants memory, and one that ended
    pub no_outcome : (held : Option (List ℕ)) (f : Fault) (r : Result Status Stop) → IsErrAnd r (λ s. s ≡ Faulty f) → Takes ns m arguments
        → IsMeant ns bytes id m (trees ts) arguments steps (Err f) → Writes (EvaluatesMethod bytes ns arguments steps (id, m)) tt tt held held r
    no_outcome held f r is takes meant = after_body (Ok ts) held held r body
        (given (Fit ns m arguments) behind_fit tt tt held held tt r takes
        (given_fault (IsMeant ns bytes id m (trees ts) arguments steps) behind_outcome tt held f r is meant))

    pub after_outcome : (outcome : Outcome × List Event) (held holds : Option (List ℕ)) (r : Result Status Stop) → Takes ns m arguments
        → IsMeant ns bytes id m (trees ts) arguments steps (Ok outcome)
        → Writes (Tells (evaluation_text ns.entries outcome) (outcome_status outcome.0)) (tt {0}) (tt {0}) held holds r
        → Writes (EvaluatesMethod bytes ns arguments steps (id, m)) tt tt held holds r
    after_outcome outcome held holds r takes meant does = after_body (Ok ts) held holds r body
        (given (Fit ns m arguments) behind_fit tt tt held holds tt r takes
        (given (IsMeant ns bytes id m (trees ts) arguments steps) behind_outcome tt tt held holds outcome r meant does))

-- what is answered of an accepted method's arguments is whether each is of its kind
pub all_fit_as : (checked : Checked) (k : ℕ) (accepted : Accepted) (listed values : List held.Value) (answer b : Bool) → listed ≡ values → said_of checked k ≡ Some (verdict.Accepted accepted)
    → answer ≡ accepts_by (accepted_by (numbered checked.shapes) (verdict_at checked.verdicts.items k)) (map view listed) → answer ≡ b
    → all_fit (map view values) (kinds_of (numbered checked.shapes) accepted.args.items) ≡ b
all_fit_as checked k accepted listed values answer b are said is does =
    ap (λ (vs : List held.Value). all_fit (map view vs) (kinds_of (numbered checked.shapes) accepted.args.items)) (sym are)
    ∙ ap (λ (o : Option Verdict). accepts_by (accepted_by (numbered checked.shapes) o) (map view listed)) (sym said) ∙ sym is ∙ does

-- what is said of a method that is accepted, and that nothing of the sort is said of any other
pub accepted_there : (said : Option Verdict) → is_accepted said ≡ true → (a : Accepted) × (said ≡ Some (verdict.Accepted a))
accepted_there None is = absurd cc
accepted_there (Some (verdict.Accepted a)) is = (a, refl)
accepted_there (Some (verdict.Refused refusal finding)) is = absurd cc
accepted_there (Some (verdict.Unreadable table refusal)) is = absurd cc

pub none_accepted : (said : Option Verdict) → is_accepted said ≡ false → (a : Accepted) → said ≡ Some (verdict.Accepted a) → ⊥
none_accepted said is a accepted = (let does : is_accepted said ≡ true = ap is_accepted accepted in absurd cc)

-- a method that is judged first
module _ (bytes : ℕ → ℕ → ℕ) (told : Told) (ns : Shown) (arguments : List Value) (found : ℕ × Method) where
  abbrev behind_verdicts : Checked → Step (Unit {0}) Status
  behind_verdicts checked = EvaluatesJudged bytes ns arguments found checked (said_of checked found.0)

  abbrev behind_done : Outcome × List Event → Step (Unit {0}) Status
  behind_done ended = Tells (evaluation_text ns.entries ended) (outcome_status ended.0)

  abbrev behind_accepts : ℕ → Unit {0} → Step (Unit {0}) Status
  behind_accepts bound _ = Then (Obtains (IsDone bytes ns found arguments bound)) behind_done

  pub no_judgement : (held : Option (List ℕ)) (f : Fault) (r : Result Status Stop) → IsErrAnd r (λ s. s ≡ Faulty f) → Judges told ns (Err f)
      → Writes (EvaluatesFound bytes told ns arguments None found) tt tt held held r
  no_judgement held f r is wants = given_fault (Judges told ns) behind_verdicts tt held f r is wants

  module _ (checked : Checked) (are : AreVerdictsOn told ns checked) where
    after_verdicts : (said : Option Verdict) (held holds : Option (List ℕ)) (r : Result Status Stop) → said_of checked found.0 ≡ said
        → Writes (EvaluatesJudged bytes ns arguments found checked said) tt tt held holds r
        → Writes (EvaluatesFound bytes told ns arguments None found) tt tt held holds r
    after_verdicts said held holds r is does =
        given (Judges told ns) behind_verdicts tt tt held holds checked r are
        (subst (λ v. Writes (EvaluatesJudged bytes ns arguments found checked v) tt tt held holds r) (sym is) does)

    -- one that is accepted, and does not take the arguments
    pub not_taken : (accepted : Accepted) (held : Option (List ℕ)) (f : Fault) (r : Result Status Stop) → IsErrAnd r (λ s. s ≡ Faulty f)
        → said_of checked found.0 ≡ Some (verdict.Accepted accepted) → Accepts checked accepted arguments (Err f)
        → Writes (EvaluatesFound bytes told ns arguments None found) tt tt held held r
    not_taken accepted held f r is said refuses = after_verdicts _ held held r said
        (given_fault (Accepts checked accepted arguments) (behind_accepts accepted.bound) tt held f r is refuses)

    -- one that takes them: its evaluation wants memory, or is done
    pub not_done : (accepted : Accepted) (held : Option (List ℕ)) (f : Fault) (r : Result Status Stop) → IsErrAnd r (λ s. s ≡ Faulty f)
        → said_of checked found.0 ≡ Some (verdict.Accepted accepted) → Accepts checked accepted arguments (Ok tt)
        → IsDone bytes ns found arguments accepted.bound (Err f)
        → Writes (EvaluatesFound bytes told ns arguments None found) tt tt held held r
    not_done accepted held f r is said takes wants = after_verdicts _ held held r said
        (given (Accepts checked accepted arguments) (behind_accepts accepted.bound) tt tt held held tt r takes
        (given_fault (IsDone bytes ns found arguments accepted.bound) behind_done tt held f r is wants))

    pub done : (accepted : Accepted) (ended : Outcome × List Event) (held holds : Option (List ℕ)) (r : Result Status Stop)
        → said_of checked found.0 ≡ Some (verdict.Accepted accepted) → Accepts checked accepted arguments (Ok tt)
        → IsDone bytes ns found arguments accepted.bound (Ok ended)
        → Writes (Tells (evaluation_text ns.entries ended) (outcome_status ended.0)) (tt {0}) (tt {0}) held holds r
        → Writes (EvaluatesFound bytes told ns arguments None found) tt tt held holds r
    done accepted ended held holds r said takes is does = after_verdicts _ held holds r said
        (given (Accepts checked accepted arguments) (behind_accepts accepted.bound) tt tt held holds tt r takes
        (given (IsDone bytes ns found arguments accepted.bound) behind_done tt tt held holds ended r is does))

    -- and any other
    other : (said : Option Verdict) (held holds : Option (List ℕ)) (r : Result Status Stop) → ((a : Accepted) → said ≡ Some (verdict.Accepted a) → ⊥)
        → Writes (Tells (said_text checked (record { 0 = found.0 })) exit.Refused) (tt {0}) (tt {0}) held holds r
        → Writes (EvaluatesJudged bytes ns arguments found checked said) tt tt held holds r
    other None held holds r not does = does
    other (Some (verdict.Accepted a)) held holds r not does = absurd (not a refl)
    other (Some (verdict.Refused refusal finding)) held holds r not does = does
    other (Some (verdict.Unreadable table refusal)) held holds r not does = does

    pub not_accepted : (held holds : Option (List ℕ)) (r : Result Status Stop) → ((a : Accepted) → said_of checked found.0 ≡ Some (verdict.Accepted a) → ⊥)
        → Writes (Tells (said_text checked (record { 0 = found.0 })) exit.Refused) (tt {0}) (tt {0}) held holds r
        → Writes (EvaluatesFound bytes told ns arguments None found) tt tt held holds r
    not_accepted held holds r not does = after_verdicts _ held holds r refl (other (said_of checked found.0) held holds r not does)

-- what stands behind the inputs, behind the kinds, behind the registers, and behind the arguments
abbrev behind_inputs : {F : Type 0} → Registers → Told → List ℕ → List Value → Option ℕ → Option (List ℕ) → Inputs → Step F Status
behind_inputs registers told word arguments steps osi inputs = Still (EvaluatesTables (contents registers.file) told word arguments steps (interfaces_of osi) (tables_of inputs))

abbrev behind_signatures : {F : Type 0} → Answers F → InputNames → List ℕ → Option ℕ → Option (List ℕ) → List Value → Registers → Signatures → Step F Status
behind_signatures answers names word steps osi arguments registers signatures =
    Then (ReadsInputs answers names) (behind_inputs registers (kinds_told signatures) word arguments steps osi)

abbrev behind_registers : {F : Type 0} → Answers F → InputNames → List ℕ → Option (List ℕ) → Option ℕ → Option (List ℕ) → List Value → Registers → Step F Status
behind_registers answers names word kinds steps osi arguments registers =
    Then (ReadsSignatures answers kinds) (behind_signatures answers names word steps osi arguments registers)

abbrev behind_arguments : {F : Type 0} → Answers F → InputNames → List ℕ → Option (List ℕ) → Option (List ℕ) → Option ℕ → Option (List ℕ) → List Value → Step F Status
behind_arguments answers names word regs kinds steps osi arguments =
    Then (ReadsRegisters answers regs) (behind_registers answers names word kinds steps osi arguments)

-- arguments that cannot be read
pub no_arguments : {F : Type 0} (answers : Answers F) (old : F) (names : InputNames) (word : List ℕ) (args regs kinds : Option (List ℕ)) (steps : Option ℕ) (osi : Option (List ℕ)) (held : Option (List ℕ)) (f : Fault) (r : Result Status Stop)
    → IsErrAnd r (λ s. s ≡ Faulty f) → ReadsArguments args (Err f) → Writes (EvaluatesFiles answers names word args regs kinds steps osi) old old held held r
no_arguments answers old names word args regs kinds steps osi held f r is bad =
    given_fault (ReadsArguments args) (behind_arguments answers names word regs kinds steps osi) old held f r is bad

-- registers that cannot be set
pub no_registers : {F : Type 0} (answers : Answers F) (old new : F) (names : InputNames) (word : List ℕ) (args regs kinds : Option (List ℕ)) (arguments : List Value) (steps : Option ℕ) (osi : Option (List ℕ)) (held : Option (List ℕ)) (f : Fault) (r : Result Status Stop)
    → IsErrAnd r (λ s. s ≡ Faulty f) → ListsArguments args arguments → OpensRegisters answers old regs (Err f) new → Writes (EvaluatesFiles answers names word args regs kinds steps osi) old new held held r
no_registers answers old new names word args regs kinds arguments steps osi held f r is lists opens =
    given (ReadsArguments args) (behind_arguments answers names word regs kinds steps osi) old new held held arguments r lists
    (quiet_fault (λ o x n. OpensRegisters answers o regs x n) (behind_registers answers names word kinds steps osi arguments) old new held f r is opens)

-- kinds that cannot be read
pub no_signatures : {F : Type 0} (answers : Answers F) (old set new : F) (names : InputNames) (word : List ℕ) (args regs kinds : Option (List ℕ)) (arguments : List Value) (registers : Registers) (steps : Option ℕ) (osi : Option (List ℕ)) (held : Option (List ℕ)) (f : Fault) (r : Result Status Stop)
    → IsErrAnd r (λ s. s ≡ Faulty f) → ListsArguments args arguments → OpensRegisters answers old regs (Ok registers) set → OpensSignatures answers set kinds (Err f) new
    → Writes (EvaluatesFiles answers names word args regs kinds steps osi) old new held held r
no_signatures answers old set new names word args regs kinds arguments registers steps osi held f r is lists sets opens =
    given (ReadsArguments args) (behind_arguments answers names word regs kinds steps osi) old new held held arguments r lists
    (quiet (λ o x n. OpensRegisters answers o regs x n) (behind_registers answers names word kinds steps osi arguments) old set new held held registers r sets
    (quiet_fault (λ o x n. OpensSignatures answers o kinds x n) (behind_signatures answers names word steps osi arguments registers) set new held f r is opens))

-- inputs that cannot be read
pub no_inputs : {F : Type 0} (answers : Answers F) (old set told new : F) (names : InputNames) (word : List ℕ) (args regs kinds : Option (List ℕ)) (arguments : List Value) (registers : Registers) (signatures : Signatures) (steps : Option ℕ) (osi : Option (List ℕ)) (held : Option (List ℕ)) (f : Fault) (r : Result Status Stop)
    → IsErrAnd r (λ s. s ≡ Faulty f) → ListsArguments args arguments → OpensRegisters answers old regs (Ok registers) set → OpensSignatures answers set kinds (Ok signatures) told
    → OpensInputs answers told names (Err f) new → Writes (EvaluatesFiles answers names word args regs kinds steps osi) old new held held r
no_inputs answers old set told new names word args regs kinds arguments registers signatures steps osi held f r is lists sets tells opens =
    given (ReadsArguments args) (behind_arguments answers names word regs kinds steps osi) old new held held arguments r lists
    (quiet (λ o x n. OpensRegisters answers o regs x n) (behind_registers answers names word kinds steps osi arguments) old set new held held registers r sets
    (quiet (λ o x n. OpensSignatures answers o kinds x n) (behind_signatures answers names word steps osi arguments registers) set told new held held signatures r tells
    (quiet_fault (λ o x n. OpensInputs answers o names x n) (behind_inputs registers (kinds_told signatures) word arguments steps osi) told new held f r is opens)))

-- inputs that were read
pub inputs_evaluated : {F : Type 0} (answers : Answers F) (old set told new : F) (names : InputNames) (word : List ℕ) (args regs kinds : Option (List ℕ)) (arguments : List Value) (registers : Registers) (signatures : Signatures) (inputs : Inputs) (steps : Option ℕ) (osi : Option (List ℕ)) (held holds : Option (List ℕ)) (r : Result Status Stop)
    → ListsArguments args arguments → OpensRegisters answers old regs (Ok registers) set → OpensSignatures answers set kinds (Ok signatures) told
    → OpensInputs answers told names (Ok inputs) new
    → Writes (EvaluatesTables (contents registers.file) (kinds_told signatures) word arguments steps (interfaces_of osi) (tables_of inputs)) tt tt held holds r
    → Writes (EvaluatesFiles answers names word args regs kinds steps osi) old new held holds r
inputs_evaluated answers old set told new names word args regs kinds arguments registers signatures inputs steps osi held holds r lists sets tells opens does =
    given (ReadsArguments args) (behind_arguments answers names word regs kinds steps osi) old new held holds arguments r lists
    (quiet (λ o x n. OpensRegisters answers o regs x n) (behind_registers answers names word kinds steps osi arguments) old set new held holds registers r sets
    (quiet (λ o x n. OpensSignatures answers o kinds x n) (behind_signatures answers names word steps osi arguments registers) set told new held holds signatures r tells
    (quiet (λ o x n. OpensInputs answers o names x n) (behind_inputs registers (kinds_told signatures) word arguments steps osi) told new new held holds inputs r opens
    (still (EvaluatesTables (contents registers.file) (kinds_told signatures) word arguments steps (interfaces_of osi) (tables_of inputs)) new held holds r does))))

-- what stands behind the inputs of `names`, and behind their load
abbrev behind_tables : {F : Type 0} → Inputs → Step F Status
behind_tables inputs = Then (Obtains (Loads [] (tables_of inputs))) (λ ns. Tells (names_text ns) exit.Done)

-- no names: inputs that cannot be read, or tables that cannot be loaded
pub no_names : {F : Type 0} (answers : Answers F) (old new : F) (names : InputNames) (held : Option (List ℕ)) (f : Fault) (r : Result Status Stop)
    → IsErrAnd r (λ s. s ≡ Faulty f) → OpensInputs answers old names (Err f) new → Writes (ListsNames answers names) old new held held r
no_names answers old new names held f r is opens = quiet_fault (λ o x n. OpensInputs answers o names x n) behind_tables old new held f r is opens

pub no_namespace : {F : Type 0} (answers : Answers F) (old new : F) (names : InputNames) (inputs : Inputs) (held : Option (List ℕ)) (f : Fault) (r : Result Status Stop)
    → IsErrAnd r (λ s. s ≡ Faulty f) → OpensInputs answers old names (Ok inputs) new → Loads [] (tables_of inputs) (Err f) → Writes (ListsNames answers names) old new held held r
no_namespace answers old new names inputs held f r is opens fails =
    quiet (λ o x n. OpensInputs answers o names x n) behind_tables old new new held held inputs r opens
    (given_fault (Loads [] (tables_of inputs)) (λ ns. Tells (names_text ns) exit.Done) new held f r is fails)

-- the names of tables that were loaded
pub names_listed : {F : Type 0} (answers : Answers F) (old new : F) (names : InputNames) (inputs : Inputs) (ns : Shown) (held holds : Option (List ℕ)) (r : Result Status Stop)
    → OpensInputs answers old names (Ok inputs) new → Loads [] (tables_of inputs) (Ok ns) → Writes (Tells (names_text ns) exit.Done) new new held holds r
    → Writes (ListsNames answers names) old new held holds r
names_listed answers old new names inputs ns held holds r opens loaded tells =
    quiet (λ o x n. OpensInputs answers o names x n) behind_tables old new new held holds inputs r opens
    (given (Loads [] (tables_of inputs)) (λ shown. Tells (names_text shown) exit.Done) new new held holds ns r loaded tells)
