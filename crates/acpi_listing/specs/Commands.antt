-- What the commands do, from words that were read to what is printed.
use Rattle.std.specs.Prelude.{◌≡◌, ◌⊎◌, ◌&&◌, ℕ, List, [], ◌∷◌, ◌++◌, Bool, true, false, IsTrue, nat_le, option_and_then, length, if◌then◌else◌, Option, Some, None, Result, Ok, Err, IfOk, map, option_map, vec_items}
use Rattle.std.specs.Io.KnownBytes.{Appends}
use Rattle.aml_objects.specs.declared.width.Width.{Width}
use Rattle.aml_operators.specs.Tree.{Tree, Trees, trees}
use Rattle.aml_tree.specs.declared.fault.Refusal.{Refusal}
use Rattle.aml_tree.specs.declared.fault.TreeFault.TheVariants.{Refused}
use Rattle.aml_objects.specs.declared.object.Method.{Method}
use Rattle.aml_objects.specs.Entries.{Entries, object_at}
use Rattle.aml_namespace.specs.Load.{Shown}
use Rattle.aml_namespace.specs.Names.{method_at, IsBodyOf, ReadsBodyOf}
use Rattle.aml_paths.specs.Printed.{path_text}
use Rattle.aml_namespace.specs.PrintedObjects.{printed_object}
use Rattle.aml_values.specs.Values.{Value, Int, Buf, Pkg}
use Rattle.aml_contents.specs.FirstKinds.{greatest_of}
use Rattle.aml_contents.specs.FirstContents.{first_kinds}
use Rattle.aml_meaning.specs.State as State
use Rattle.aml_literal_laws.specs.Laws.{first_names}
use Rattle.aml_regions.specs.Events.{AreWords, Event, Log}
use Rattle.aml_regions.specs.Registers.{contents}
use Rattle.aml_registers.specs.Answers.{AreAnswered, LeaveNames}
use Rattle.aml_bodies.specs.Methods.{Around}
use Rattle.aml_interp.specs.Answers.{AnswersBody}
use Rattle.aml_meaning.specs.Methods.{setting_in}
use Rattle.aml_plain.specs.Methods.{Evaluates}
use Rattle.aml_meaning.specs.declared.outcome.Outcome.{Outcome}
use Rattle.aml_meaning.specs.declared.outcome.Outcome.TheVariants.{Done, AmlError, OutOfSteps}
use Rattle.aml_values.specs.Views.{view}
use Rattle.aml_values.specs.declared.value.Value as held
use Rattle.acpi_objects.specs.Gives.{GivesBy, gives_value}
use Rattle.acpi_objects.specs.declared.given.Given.{Given}
use Rattle.acpi_objects.specs.declared.given.Given.TheVariants as given
use Rattle.acpi_resource_text.specs.Lines.{items_text, routes_text}
use Rattle.acpi_resources.specs.Interrupts.{Links, crs_of_links, global_number, interrupt_of_device}
use Rattle.acpi_resources.specs.Items.{items_of}
use Rattle.acpi_resources.specs.declared.fault.ResourceFault.TheVariants as resources
use Rattle.acpi_resources.specs.declared.fault.ResourceRefusal.{ResourceRefusal}
use Rattle.acpi_resources.specs.Routes.{routes_of}
use Rattle.acpi_resources.specs.declared.item.Item.{Item}
use Rattle.acpi_resources.specs.declared.route.Route.{Route}
use Rattle.acpi_resources.specs.declared.route_fault.RouteFault.TheVariants as routes
use Rattle.acpi_resources.specs.declared.route_fault.RouteRefusal.{RouteRefusal}
use Rattle.acpi_routing.specs.Prt.{GivesPrt}
use Rattle.acpi_routing.specs.declared.fault.LinkFault.{LinkFault}
use Rattle.acpi_routing.specs.declared.fault.LinkFault.TheVariants as links
use Rattle.acpi_routing.specs.declared.fault.LinkRefusal.{LinkRefusal}
use Rattle.acpi_routing.specs.declared.prt.Prt.{Prt}
use Rattle.acpi_tables.specs.declared.madt.Madt.{Madt}
use Rattle.acpi_words.specs.Arguments.{ListsArguments, ListsBadArguments}
use Rattle.acpi_text.specs.Events.{events_text}
use Rattle.acpi_text.specs.Lists.{Lists}
use Rattle.acpi_text.specs.Names.{names_text}
use Rattle.aml_path_text.specs.Paths.{path_of}
use Rattle.acpi_text.specs.Outcome.{outcome_line, refusal_line}
use Rattle.acpi_sources.specs.Faults.{at_byte, fault_line, fault_status, nowhere, resource_fault, route_fault, Tries}
use Rattle.acpi_sources.specs.Files.{Answers}
use Rattle.acpi_listing.specs.Files.{ListsFiles}
use Rattle.acpi_listing.specs.Inputs.{ReadsInputs}
use Rattle.acpi_sources.specs.Inputs.{tables_of}
use Rattle.acpi_listing.specs.Loading.{Loads, interfaces_of}
use Rattle.acpi_listing.specs.Madt.{ReadsControllers, ReadsMadt}
use Rattle.acpi_listing.specs.Registers.{ReadsRegisters}
use Rattle.acpi_listing.specs.Signatures.{ReadsSignatures}
use Rattle.acpi_listing.specs.Steps.{Step, Then, Obtains, Still, Tells}
use Rattle.acpi_words.specs.FirstLine.{StartsWith, FailsToStart}
use Rattle.acpi_sources.specs.Input.{IsRead, hex_answers, is_whole}
use Rattle.acpi_words.specs.Words.{AsksFor, AsksNothing}
use Rattle.acpi_sources.specs.declared.fault.Fault.{Fault}
use Rattle.acpi_sources.specs.declared.fault.FaultCause.TheVariants as cause
use Rattle.acpi_listing.specs.declared.stop.Stop.{Stop}
use Rattle.acpi_listing.specs.declared.stop.Stop.TheVariants.{Fault as Faulty, Run}
use Rattle.acpi_sources.specs.declared.input.Input.{Input}
use Rattle.acpi_sources.specs.declared.inputs.InputNames.{InputNames}
use Rattle.acpi_sources.specs.declared.hex_lines.HexLines.{HexLines}
use Rattle.acpi_text.specs.declared.writing.RunFault.{RunFault}
use Rattle.acpi_words.specs.declared.words.Request.{Request}
use Rattle.acpi_words.specs.declared.words.Request.TheVariants.{Tables, Names, Verify, Eval, Resources, Routing}
use Rattle.acpi_verdicts.specs.Verdicts.{any_refused, said_of, said_text, verdicts_text}
use Rattle.aml_known.specs.declared.accepted.Accepted.{Accepted}
use Rattle.aml_known.specs.Views.{kinds_of}
use Rattle.aml_methods.specs.Judgings.{Told}
use Rattle.aml_namespace.specs.Shows.{shown}
use Rattle.aml_signatures.specs.Signed.{kinds_told}
use Rattle.aml_shapes.specs.Numbers.{numbered}
use Rattle.aml_verify.specs.Accepts.{all_fit}
use Rattle.aml_verify.specs.Verdicts.{IsChecked}
use Rattle.aml_verify.specs.declared.checked.Checked.{Checked}
use Rattle.aml_verify.specs.declared.verdict.Verdict.{Verdict}
use Rattle.aml_verify.specs.declared.verdict.Verdict.TheVariants as verdict
use Rattle.acpi_sources.specs.declared.status.Status.{Status}
use Rattle.acpi_sources.specs.declared.status.Status.TheVariants as exit

-- the method whose printed path, or an alias's, a word is
abbrev pub IsMethodAt : Shown → List ℕ → ℕ → Method → Type 0
IsMethodAt ns word id m = (printed_object ns.entries word ≡ Some id) × (method_at ns id ≡ Some m)

-- no method has a word's path
abbrev pub IsNoMethodAt : Shown → List ℕ → Type 0
IsNoMethodAt ns word = option_and_then (method_at ns) (printed_object ns.entries word) ≡ None

-- a value is no integer above the greatest
abbrev pub is_taken : ℕ → Value → Bool
is_taken greatest (Int n) = nat_le n greatest
is_taken greatest v = true

-- the integers among these values are of a width
abbrev pub are_taken : Width → List Value → Bool
are_taken width [] = true
are_taken width (v ∷ vs) = is_taken (greatest_of width) v && are_taken width vs

-- a method takes arguments: as many as it has, and the integers among them are of the namespace's
-- width
abbrev pub Takes : Shown → Method → List Value → Type 0
Takes ns m arguments = (length arguments ≡ m.args) × IsTrue (are_taken ns.width arguments)

-- the status of an outcome
abbrev pub outcome_status : Outcome → Status
outcome_status (Done _) = exit.Done
outcome_status (AmlError _) = exit.Refused
outcome_status OutOfSteps = exit.Refused

-- the arguments, or the first fault of their text
abbrev pub ReadsArguments : Option (List ℕ) → Result (List Value) Fault → Type 0
ReadsArguments args =
    Tries (ListsArguments args) (λ f. (f ≡ nowhere cause.BadArgs) × ListsBadArguments args)

-- the method of that path
abbrev pub Finds : Shown → List ℕ → Result (ℕ × Method) Fault → Type 0
Finds ns word (Ok (id, m)) = IsMethodAt ns word id m
Finds ns word (Err f) = IsNoMethodAt ns word × (f ≡ nowhere cause.NoSuchObject)

-- the terms of a method's body, or why it cannot be read
abbrev pub ReadsBody : Shown → ℕ → Method → Result (Result (List Tree) Refusal) Fault → Type 0
ReadsBody ns id m (Ok (Ok ts)) = IsBodyOf ns id m ts
ReadsBody ns id m (Ok (Err refusal)) = ReadsBodyOf ns id m (Err (Refused refusal))
ReadsBody ns id m (Err f) = f ≡ nowhere cause.NoMemory

-- the arguments fit the method
abbrev pub Fit : Shown → Method → List Value → Result (Unit {0}) Fault → Type 0
Fit ns m arguments (Ok _) = Takes ns m arguments
Fit ns m arguments (Err f) = (Takes ns m arguments → ⊥) × (f ≡ nowhere cause.ArgsDontFit)

-- events in which answers fit, and no Sleep left contents
pub record AreStill (ns : Shown) (events : List Event) : Type 0 where
  pub words : AreWords (first_kinds ns) events
  pub left : LeaveNames events

-- an outcome and the events until then, which the meaning has from what names hold first, whatever
-- happened before, and whatever names hold afterwards; and the reads among the events are answered
-- as registers of these bytes answer them
pub record IsOutcome (ns : Shown) (bytes : ℕ → ℕ → ℕ) (id : ℕ) (m : Method) (body : Trees)
    (arguments : List Value) (steps : ℕ) (outcome : Outcome) (events : List Event) : Type 0 where
  pub names : State.Names
  pub before : Log
  pub refusals : ℕ
  pub evaluates : Evaluates ns id m body arguments steps (first_names ns) before (Ok outcome) names
      (record { events = before.events ++ events; refusals = refusals })
  pub answered : AreAnswered bytes events

abbrev pub IsMeant : Shown → (ℕ → ℕ → ℕ) → ℕ → Method → Trees → List Value → ℕ →
    Result (Outcome × List Event) Fault → Type 0
IsMeant ns bytes id m body arguments steps (Ok (outcome, events)) =
    IsOutcome ns bytes id m body arguments steps outcome events
IsMeant ns bytes id m body arguments steps (Err f) = f ≡ nowhere cause.NoMemory

-- such an outcome, where mutexes are not watched
pub record IsAnswered (ns : Shown) (bytes : ℕ → ℕ → ℕ) (id : ℕ) (m : Method) (body : Trees)
    (arguments : List Value) (steps : ℕ) (outcome : Outcome) (events : List Event) : Type 0 where
  pub names : State.Names
  pub before : Log
  pub refusals : ℕ
  pub kinds : names.kinds ≡ first_kinds ns
  pub still : AreStill ns before.events
  pub answers : (around : Around ns) →
      AnswersBody (setting_in ns around.bodies id m body) body arguments steps (first_names ns)
      before (Ok outcome) names
      (record { events = before.events ++ events; refusals = refusals })
  pub answered : AreAnswered bytes events

-- an accepted method's outcome and the events until then: it is done, and both are those of the
-- statements that the grammar ties to its bytes
pub record IsDoneOver (bytes : ℕ → ℕ → ℕ) (ns : Shown) (id : ℕ) (m : Method)
    (arguments : List Value) (steps : ℕ) (outcome : Outcome) (events : List Event) : Type 0 where
  pub value : Option held.Value
  pub done : outcome ≡ Done value
  pub body : List Tree
  pub read : IsBodyOf ns id m body
  pub meant : IsAnswered ns bytes id m (trees body) arguments steps outcome events

-- the same; or memory is wanted
abbrev pub IsDone : (ℕ → ℕ → ℕ) → Shown → ℕ × Method → List Value → ℕ →
    Result (Outcome × List Event) Fault → Type 0
IsDone bytes ns (id, m) arguments steps (Ok (outcome, events)) =
    IsDoneOver bytes ns id m arguments steps outcome events
IsDone bytes ns found arguments steps (Err f) = f ≡ nowhere cause.NoMemory

-- the lines of the events of an evaluation, and behind them that of its outcome
abbrev pub evaluation_text : Entries → Outcome × List Event → List ℕ
evaluation_text entries (outcome, events) =
    events_text entries events ++ outcome_line entries outcome

-- an outcome, with the events until then
abbrev pub with_events : Result Outcome Fault → List Event → Result (Outcome × List Event) Fault
with_events (Ok outcome) events = Ok (outcome, events)
with_events (Err f) events = Err f

-- `names`: the files, their load, the lines of all names
abbrev pub ListsNames : {F : Type 0} → Answers F → InputNames → Step F Status
ListsNames answers names =
    Then (ReadsInputs answers names) (λ inputs.
    Then (Obtains (Loads [] (tables_of inputs))) (λ ns.
    Tells (names_text ns) exit.Done))

-- verdicts on just the methods of a namespace, whose arguments are of the kinds that are told
abbrev pub AreVerdictsOn : Told → Shown → Checked → Type 0
AreVerdictsOn told ns checked = IsChecked told checked × (shown checked.namespace.now ≡ ns)

-- the methods of a namespace are judged, or memory is wanted
abbrev pub Judges : Told → Shown → Result Checked Fault → Type 0
Judges told ns (Ok checked) = AreVerdictsOn told ns checked
Judges told ns (Err f) = f ≡ nowhere cause.NoMemory

-- the status of verdicts: Refused where a method is
abbrev pub verdicts_status : Checked → Status
verdicts_status checked = if any_refused checked then exit.Refused else exit.Done

-- `verify` of a namespace, where these kinds are told: the verdicts on all methods, their lines
abbrev pub VerifiesLoaded : Told → Shown → Step (Unit {0}) Status
VerifiesLoaded told ns =
    Then (Obtains (Judges told ns)) (λ checked.
    Tells (verdicts_text checked) (verdicts_status checked))

-- `verify` of tables: the load, and what was loaded
abbrev pub VerifiesTables : Told → List (List ℕ) → Step (Unit {0}) Status
VerifiesTables told tables = Then (Obtains (Loads [] tables)) (λ ns. VerifiesLoaded told ns)

-- `verify`: the kinds that are told, the files, their tables
abbrev pub VerifiesFiles : {F : Type 0} → Answers F → InputNames → Option (List ℕ) → Step F Status
VerifiesFiles answers names kinds =
    Then (ReadsSignatures answers kinds) (λ signatures.
    Then (ReadsInputs answers names) (λ inputs.
    Still (VerifiesTables (kinds_told signatures) (tables_of inputs))))

-- the first path of the object with a number, as it is printed
abbrev pub printed_path : Shown → ℕ → List ℕ
printed_path ns id = path_text (path_of ns.entries id)

-- `eval` of a body, over registers of these bytes: a refused one has its line; else the arguments
-- must fit, and the events and the outcome have their lines
abbrev pub EvaluatesBody : (ℕ → ℕ → ℕ) → Shown → ℕ × Method → List Value → ℕ →
    Result (List Tree) Refusal → Step (Unit {0}) Status
EvaluatesBody bytes ns (id, m) arguments steps (Err refusal) =
    Tells (refusal_line (printed_path ns id) m.table refusal) exit.Refused
EvaluatesBody bytes ns (id, m) arguments steps (Ok ts) =
    Then (Obtains (Fit ns m arguments)) (λ _.
    Then (Obtains (IsMeant ns bytes id m (trees ts) arguments steps)) (λ ended.
    Tells (evaluation_text ns.entries ended) (outcome_status ended.0)))

-- `eval` of a method's body, with so many steps: the body is read, and evaluated
abbrev pub EvaluatesMethod : (ℕ → ℕ → ℕ) → Shown → List Value → ℕ → ℕ × Method →
    Step (Unit {0}) Status
EvaluatesMethod bytes ns arguments steps found =
    Then (Obtains (ReadsBody ns found.0 found.1)) (EvaluatesBody bytes ns found arguments steps)

-- a method is accepted
abbrev pub is_accepted : Option Verdict → Bool
is_accepted (Some (verdict.Accepted a)) = true
is_accepted said = false

-- an accepted method takes arguments: as many as it has, each of its kind
abbrev pub Accepts : Checked → Accepted → List Value → Result (Unit {0}) Fault → Type 0
Accepts checked accepted arguments (Ok _) =
    all_fit arguments (kinds_of (numbered checked.shapes) accepted.args.items) ≡ true
Accepts checked accepted arguments (Err f) =
    (all_fit arguments (kinds_of (numbered checked.shapes) accepted.args.items) ≡ false) ×
    (f ≡ nowhere cause.ArgsDontFit)

-- `eval` of an accepted method, with as many steps as its verdict says: the arguments must be of
-- its kinds, and the events and the value or none have their lines
abbrev pub EvaluatesAccepted : (ℕ → ℕ → ℕ) → Shown → List Value → ℕ × Method → Checked → Accepted →
    Step (Unit {0}) Status
EvaluatesAccepted bytes ns arguments found checked accepted =
    Then (Obtains (Accepts checked accepted arguments)) (λ _.
    Then (Obtains (IsDone bytes ns found arguments accepted.bound)) (λ ended.
    Tells (evaluation_text ns.entries ended) (outcome_status ended.0)))

-- `eval` of a method by what is said of it: an accepted one is evaluated; what is said of any other
-- has its line
abbrev pub EvaluatesJudged : (ℕ → ℕ → ℕ) → Shown → List Value → ℕ × Method → Checked →
    Option Verdict → Step (Unit {0}) Status
EvaluatesJudged bytes ns arguments found checked (Some (verdict.Accepted accepted)) =
    EvaluatesAccepted bytes ns arguments found checked accepted
EvaluatesJudged bytes ns arguments found checked said =
    Tells (said_text checked (record { 0 = found.0 })) exit.Refused

-- `eval` of a method with so many steps, or, without a number, by its verdict, where these kinds
-- are told
abbrev pub EvaluatesFound : (ℕ → ℕ → ℕ) → Told → Shown → List Value → Option ℕ → ℕ × Method →
    Step (Unit {0}) Status
EvaluatesFound bytes told ns arguments (Some steps) found =
    EvaluatesMethod bytes ns arguments steps found
EvaluatesFound bytes told ns arguments None found =
    Then (Obtains (Judges told ns))
    (λ checked. EvaluatesJudged bytes ns arguments found checked (said_of checked found.0))

-- `eval` of tables, over registers of these bytes, where these kinds are told and `_OSI` knows
-- these texts: the load, the method of that path, its evaluation
abbrev pub EvaluatesTables : (ℕ → ℕ → ℕ) → Told → List ℕ → List Value → Option ℕ → List (List ℕ) →
    List (List ℕ) → Step (Unit {0}) Status
EvaluatesTables bytes told word arguments steps interfaces tables =
    Then (Obtains (Loads interfaces tables)) (λ ns.
    Then (Obtains (Finds ns word)) (EvaluatesFound bytes told ns arguments steps))

-- `eval`: the arguments, the registers, the kinds, the files, their tables over these registers,
-- where `_OSI` knows the text of `--osi`
abbrev pub EvaluatesFiles : {F : Type 0} → Answers F → InputNames → List ℕ → Option (List ℕ) →
    Option (List ℕ) → Option (List ℕ) → Option ℕ → Option (List ℕ) → Step F Status
EvaluatesFiles answers names word args regs kinds steps osi =
    Then (Obtains (ReadsArguments args)) (λ arguments.
    Then (ReadsRegisters answers regs) (λ registers.
    Then (ReadsSignatures answers kinds) (λ signatures.
    Then (ReadsInputs answers names) (λ inputs.
    Still (EvaluatesTables (contents registers.file) (kinds_told signatures) word arguments steps
    (interfaces_of osi) (tables_of inputs))))))

-- the object whose printed path, or an alias's, a word is, where it gives a value
abbrev pub IsObjectAt : Shown → List ℕ → ℕ → Type 0
IsObjectAt ns word id =
    (printed_object ns.entries word ≡ Some id) × (gives_value (object_at ns.entries id) ≡ true)

-- the object of that path
abbrev pub FindsObject : Shown → List ℕ → Result ℕ Fault → Type 0
FindsObject ns word (Ok id) = IsObjectAt ns word id
FindsObject ns word (Err f) =
    ((id : ℕ) → IsObjectAt ns word id → ⊥) × (f ≡ nowhere cause.NoSuchObject)

-- what an object gives from what names hold first, whatever happened before, at no Sleep of which
-- contents were left; and the reads among the events since then are answered as registers of these
-- bytes answer them
pub record GivesOver (bytes : ℕ → ℕ → ℕ) (checked : Checked) (id : ℕ) (g : Given) : Type 0 where
  pub names : State.Names
  pub before : Log
  pub log : Log
  pub still : AreStill (shown checked.namespace.now) before.events
  pub gives : GivesBy checked id (said_of checked id) g (first_names (shown checked.namespace.now))
      before names log
  pub answered :
      (events : List Event) → log.events ≡ before.events ++ events → AreAnswered bytes events

-- the same; or memory is wanted
abbrev pub IsGivenOver : (ℕ → ℕ → ℕ) → Checked → ℕ → Result Given Fault → Type 0
IsGivenOver bytes checked id (Ok g) = GivesOver bytes checked id g
IsGivenOver bytes checked id (Err f) = f ≡ nowhere cause.NoMemory

-- bytes spell no items, and this is why
abbrev pub SpellsNoItems : List ℕ → Fault → Type 0
SpellsNoItems octets f =
    (refusal : ResourceRefusal) × (items_of octets ≡ Err refusal) ×
    (f ≡ resource_fault (resources.Refused refusal))

-- the items that bytes spell, or why there are none
abbrev pub ReadsItems : List ℕ → Result (List Item) Fault → Type 0
ReadsItems octets = Tries (λ items. items_of octets ≡ Ok items) (SpellsNoItems octets)

-- the bytes of a buffer
abbrev pub octets_of : Value → Option (List ℕ)
octets_of (Buf octets) = Some octets
octets_of v = None

-- the items of bytes have their lines; where there are no bytes, the object gave no buffer
abbrev pub ListsItems : Option (List ℕ) → Step (Unit {0}) Status
ListsItems (Some octets) =
    Then (Obtains (ReadsItems octets)) (λ items. Tells (items_text items) exit.Done)
ListsItems None = Obtains (λ r. r ≡ Err (nowhere cause.NotBuffer))

-- `resources` by what the object gives; a method that is not accepted has its line
abbrev pub ListsGiven : Checked → ℕ → Given → Step (Unit {0}) Status
ListsGiven checked id (given.Value v) = ListsItems (octets_of (view v))
ListsGiven checked id given.Nothing = ListsItems None
ListsGiven checked id given.Refused = Tells (said_text checked (record { 0 = id })) exit.Refused

-- `resources` of a namespace, over registers of these bytes, where these kinds are told: the object
-- of that path, the verdicts on all methods, what the object gives
abbrev pub ListsLoaded : (ℕ → ℕ → ℕ) → Told → List ℕ → Shown → Step (Unit {0}) Status
ListsLoaded bytes told word ns =
    Then (Obtains (FindsObject ns word)) (λ id.
    Then (Obtains (Judges told ns)) (λ checked.
    Then (Obtains (IsGivenOver bytes checked id)) (λ g.
    ListsGiven checked id g)))

-- `resources` of tables: the load, and what was loaded
abbrev pub ListsTables : (ℕ → ℕ → ℕ) → Told → List ℕ → List (List ℕ) → Step (Unit {0}) Status
ListsTables bytes told word tables =
    Then (Obtains (Loads [] tables)) (λ ns. ListsLoaded bytes told word ns)

-- `resources`: the registers, the kinds that are told, the files, their tables over these registers
abbrev pub ListsResources : {F : Type 0} → Answers F → InputNames → List ℕ → Option (List ℕ) →
    Option (List ℕ) → Step F Status
ListsResources answers names word regs kinds =
    Then (ReadsRegisters answers regs) (λ registers.
    Then (ReadsSignatures answers kinds) (λ signatures.
    Then (ReadsInputs answers names) (λ inputs.
    Still (ListsTables (contents registers.file) (kinds_told signatures) word (tables_of inputs)))))

-- why a link that a _PRT names has no items
abbrev pub link_fault : LinkFault → Fault
link_fault links.NoMemory = nowhere cause.NoMemory
link_fault (links.Refused refused) =
    at_byte (cause.Resources refused.refusal.cause) refused.refusal.at

-- what an object gives from what names hold first, and behind that, of each link that it names,
-- what that one's _CRS gives; whatever happened before, at no Sleep of which contents were left, the
-- reads among all events since then are answered as registers of these bytes answer them
pub record PrtOver (bytes : ℕ → ℕ → ℕ) (checked : Checked) (id : ℕ)
    (r : Result Prt LinkRefusal) : Type 0 where
  pub names : State.Names
  pub before : Log
  pub log : Log
  pub still : AreStill (shown checked.namespace.now) before.events
  pub gives : GivesPrt checked id r (first_names (shown checked.namespace.now)) before names log
  pub answered :
      (events : List Event) → log.events ≡ before.events ++ events → AreAnswered bytes events

-- what an object gives and the items of the links that it names, or the first link whose bytes are
-- no items
abbrev pub IsPrtOver : (ℕ → ℕ → ℕ) → Checked → ℕ → Result Prt Fault → Type 0
IsPrtOver bytes checked id =
    Tries (λ prt. PrtOver bytes checked id (Ok prt))
    (λ f. (refused : LinkRefusal) × PrtOver bytes checked id (Err refused) ×
    (f ≡ link_fault (links.Refused refused)))

-- the routes of a _PRT, with the items of its links and with a MADT or none; or its first element
-- that has none
abbrev pub routes_with : Option Madt → Links → Value → Result (List Route) RouteRefusal
routes_with madt links prt = routes_of (interrupt_of_device (global_number madt) links) prt

-- a _PRT has no routes, and this is why
abbrev pub FollowsNot : Option Madt → Links → Value → Fault → Type 0
FollowsNot madt links prt f =
    (refusal : RouteRefusal) × (routes_with madt links prt ≡ Err refusal) ×
    (f ≡ route_fault (routes.Refused refusal))

-- the routes of a _PRT, or why it has none
abbrev pub Follows : Option Madt → Links → Value → Result (List Route) Fault → Type 0
Follows madt links prt =
    Tries (λ found. routes_with madt links prt ≡ Ok found) (FollowsNot madt links prt)

-- the routes of a package have their lines; any other value is no _PRT
abbrev pub ListsValue : Option Madt → Links → Value → Step (Unit {0}) Status
ListsValue madt links (Pkg elements) =
    Then (Obtains (Follows madt links (Pkg elements)))
    (λ routes. Tells (routes_text routes) exit.Done)
ListsValue madt links v = Obtains (λ r. r ≡ Err (nowhere cause.NotPackage))

-- `routing` by what the object gives, and the items of the links that it names; a method that is
-- not accepted has its line
abbrev pub ListsPrt : Option Madt → Checked → ℕ → Given → Links → Step (Unit {0}) Status
ListsPrt madt checked id (given.Value v) links = ListsValue madt links (view v)
ListsPrt madt checked id given.Nothing links = Obtains (λ r. r ≡ Err (nowhere cause.NotPackage))
ListsPrt madt checked id given.Refused links =
    Tells (said_text checked (record { 0 = id })) exit.Refused

-- `routing` of a namespace, over registers of these bytes, where these kinds are told, with a MADT
-- or none: the object of that path, the verdicts on all methods, what the object gives and then its
-- links, where their interrupts go
abbrev pub RoutesLoaded : (ℕ → ℕ → ℕ) → Told → Option Madt → List ℕ → Shown → Step (Unit {0}) Status
RoutesLoaded bytes told madt word ns =
    Then (Obtains (FindsObject ns word)) (λ id.
    Then (Obtains (Judges told ns)) (λ checked.
    Then (Obtains (IsPrtOver bytes checked id)) (λ prt.
    ListsPrt madt checked id prt.given (crs_of_links prt.links.items))))

-- `routing` of tables: the load, and what was loaded
abbrev pub RoutesTables : (ℕ → ℕ → ℕ) → Told → Option Madt → List ℕ → List (List ℕ) →
    Step (Unit {0}) Status
RoutesTables bytes told madt word tables =
    Then (Obtains (Loads [] tables)) (λ ns. RoutesLoaded bytes told madt word ns)

-- `routing`: the registers, the kinds that are told, the MADT, the files, their tables over these
-- registers
abbrev pub ListsRoutes : {F : Type 0} → Answers F → InputNames → List ℕ → Option (List ℕ) →
    Option (List ℕ) → Option (List ℕ) → Step F Status
ListsRoutes answers names word regs kinds controllers =
    Then (ReadsRegisters answers regs) (λ registers.
    Then (ReadsSignatures answers kinds) (λ signatures.
    Then (ReadsControllers answers controllers) (λ bytes.
    Then (Obtains (ReadsMadt bytes)) (λ madt.
    Then (ReadsInputs answers names) (λ inputs.
    Still (RoutesTables (contents registers.file) (kinds_told signatures) madt word
    (tables_of inputs)))))))

-- what the words ask for, or why there is nothing
abbrev pub Asks : List (List ℕ) → Result Request Fault → Type 0
Asks words = Tries (AsksFor words) (λ f. (f ≡ nowhere cause.CommandLine) × AsksNothing words)

-- what is asked for is done, with files of a source
abbrev pub Obeys : {F : Type 0} → Answers F → Request → Step F Status
Obeys answers (Tables names) = ListsFiles answers 0 (map (λ name. name.now) (vec_items names))
Obeys answers (Names names) = ListsNames answers names
Obeys answers (Verify request) =
    VerifiesFiles answers request.inputs (option_map (λ name. name.now) request.kinds)
Obeys answers (Eval request) =
    EvaluatesFiles answers request.inputs request.method.now
    (option_map (λ text. text.now) request.args) (option_map (λ name. name.now) request.regs)
    (option_map (λ name. name.now) request.kinds) request.steps
    (option_map (λ text. text.now) request.osi)
Obeys answers (Resources request) =
    ListsResources answers request.inputs request.object.now
    (option_map (λ name. name.now) request.regs) (option_map (λ name. name.now) request.kinds)
Obeys answers (Routing request) =
    ListsRoutes answers request.asked.inputs request.asked.object.now
    (option_map (λ name. name.now) request.asked.regs)
    (option_map (λ name. name.now) request.asked.kinds) (option_map (λ name. name.now) request.madt)

-- a command: its words, and what they ask for
abbrev pub ObeysWords : {F : Type 0} → Answers F → List (List ℕ) → Step F Status
ObeysWords answers words = Then (Obtains (Asks words)) (Obeys answers)

-- a fault's line is listed, and its status answered
abbrev pub Reports : Fault → Option (List ℕ) → Option (List ℕ) → Result Status RunFault → Type 0
Reports f held holds r =
    IfOk r (λ ended. ended ≡ fault_status f) × Lists r held holds (fault_line f)

-- what a command wrote, how it ended, and what stands in the writer: its text, behind that a
-- fault's line where it ended with a fault
abbrev pub IsTold : List ℕ → Result Status Stop → Option (List ℕ) → Option (List ℕ) →
    Result Status RunFault → Type 0
IsTold text (Ok status) held holds r = (r ≡ Ok status) × Appends held holds text
IsTold text (Err (Faulty f)) held holds r =
    IfOk r (λ status. status ≡ fault_status f) × Lists r held holds (text ++ fault_line f)
IsTold text (Err (Run f)) held holds r = (r ≡ Err f) × Appends held holds text

-- a command by its words, and what is told of it
abbrev pub RunsWords : {F : Type 0} → Answers F → List (List ℕ) → F → F → Option (List ℕ) →
    Option (List ℕ) → Result Status RunFault → Type 0
RunsWords answers words old new held holds r =
    (text : List ℕ) × (ended : Result Status Stop) × ObeysWords answers words old text ended new ×
    IsTold text ended held holds r

-- a command by what was read of standard input: by the words of the first line, with the files on
-- the others
abbrev pub RunsBytes : List ℕ → Bool → Option (List ℕ) → Option (List ℕ) → Result Status RunFault →
    Type 0
RunsBytes bytes whole held holds r =
    ((words : List (List ℕ)) × (old new : HexLines) × StartsWith bytes whole words old ×
    RunsWords hex_answers words old new held holds r)
    ⊎ ((f : Fault) × ((f ≡ nowhere cause.NoMemory) ⊎ FailsToStart bytes whole f) ×
    Reports f held holds r)

-- a command by standard input
abbrev pub RunsInput : Option (List ℕ) → Option (List ℕ) → Option (List ℕ) → Option (List ℕ) →
    Result Status RunFault → Type 0
RunsInput old new held holds r =
    Reports (nowhere cause.NoMemory) held holds r
    ⊎ ((read : Input) × IsRead old new read ×
    RunsBytes (vec_items read.bytes) (is_whole read.end) held holds r)
