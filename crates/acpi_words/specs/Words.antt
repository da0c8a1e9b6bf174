-- What words ask for.
use Rattle.std.specs.Prelude.{◌≡◌, ◌<◌, ◌^◌, ℕ, List, [], Bool, false, Option, Some, None, codes, map, option_map, vec_items}
use Rattle.std.specs.Option.{option_map_or}
use Rattle.std.specs.Str.{bytes_eq}
use Rattle.std.specs.Str.Parse.{IsNumeral, digits_value, without_leading_plus}
use Rattle.clap.specs.Words.{Row, Text, all_of, fault_of, first_of, one_of, subcommand_of}
use Rattle.acpi_words.specs.CommandLine.{acpicheck_app}
use Rattle.acpi_sources.specs.Inputs.{file_names}
use Rattle.acpi_sources.specs.declared.inputs.InputNames.{InputNames}
use Rattle.acpi_words.specs.declared.words.Request.{Request}
use Rattle.acpi_words.specs.declared.words.Request.TheVariants.{Tables, Names, Verify, Eval, Resources, Routing}
use Rattle.acpi_words.specs.declared.words.EvalRequest.{EvalRequest}
use Rattle.acpi_words.specs.declared.words.ObjectRequest.{ObjectRequest}
use Rattle.acpi_words.specs.declared.words.RoutingRequest.{RoutingRequest}
use Rattle.acpi_words.specs.declared.words.VerifyRequest.{VerifyRequest}

-- a text is a number below 2^64 in decimal digits, a plus may stand first
abbrev pub IsCount : Text → ℕ → Type 0
IsCount text n =
    let digits = without_leading_plus text in
    IsNumeral 10 digits × (n < 2 ^ 64) × (n ≡ digits_value 10 digits)

-- whether an option without a value stands there
abbrev pub has_flag : Text → List Row → Bool
has_flag name rows = option_map_or (λ text. bytes_eq text (codes "true")) (first_of name rows) false

-- the inputs are the values of their options, and the files
abbrev pub HasInputs : List Row → InputNames → Type 0
HasInputs rows names =
    (all_of (codes "files") rows ≡ Some (file_names names))
    × (names.dead_externals ≡ has_flag (codes "dead-externals") rows)

-- each part of a judgement is the value of its option
abbrev pub HasVerifyParts : List Row → VerifyRequest → Type 0
HasVerifyParts rows request =
    HasInputs rows request.inputs
    × (first_of (codes "kinds") rows ≡ option_map (λ name. name.now) request.kinds)
    × (request.explain ≡ has_flag (codes "explain") rows)

-- the number of steps that is given, or that none is
abbrev pub HasSteps : List Row → Option ℕ → Type 0
HasSteps rows (Some n) = (text : Text) × (one_of (codes "plain") rows ≡ Some text) × IsCount text n
HasSteps rows None =
    (text : Text) (n : ℕ) → one_of (codes "plain") rows ≡ Some text → IsCount text n → ⊥

-- each part of an evaluation is the value of its option
abbrev pub HasParts : List Row → EvalRequest → Type 0
HasParts rows request =
    HasInputs rows request.inputs
    × (first_of (codes "method") rows ≡ Some request.method.now)
    × (first_of (codes "args") rows ≡ option_map (λ text. text.now) request.args)
    × (first_of (codes "regs") rows ≡ option_map (λ name. name.now) request.regs)
    × (first_of (codes "kinds") rows ≡ option_map (λ name. name.now) request.kinds)
    × HasSteps rows request.steps
    × (first_of (codes "osi") rows ≡ option_map (λ text. text.now) request.osi)

-- each part of a question for an object is the value of its option
abbrev pub HasObjectParts : List Row → ObjectRequest → Type 0
HasObjectParts rows request =
    HasInputs rows request.inputs
    × (first_of (codes "object") rows ≡ Some request.object.now)
    × (first_of (codes "regs") rows ≡ option_map (λ name. name.now) request.regs)
    × (first_of (codes "kinds") rows ≡ option_map (λ name. name.now) request.kinds)

-- each part of a question for routes is the value of its option
abbrev pub HasRoutingParts : List Row → RoutingRequest → Type 0
HasRoutingParts rows request =
    HasObjectParts rows request.asked
    × (first_of (codes "madt") rows ≡ option_map (λ name. name.now) request.madt)

-- a command and what its words gave is a request
abbrev pub IsRequest : Option (Text × List Row) → Request → Type 0
IsRequest found (Tables names) =
    (rows : List Row) × (found ≡ Some (codes "tables", rows))
    × (all_of (codes "files") rows ≡ Some (map (λ name. name.now) (vec_items names)))
IsRequest found (Names names) =
    (rows : List Row) × (found ≡ Some (codes "names", rows)) × HasInputs rows names
IsRequest found (Verify request) =
    (rows : List Row) × (found ≡ Some (codes "verify", rows)) × HasVerifyParts rows request
IsRequest found (Eval request) =
    (rows : List Row) × (found ≡ Some (codes "eval", rows)) × HasParts rows request
IsRequest found (Resources request) =
    (rows : List Row) × (found ≡ Some (codes "resources", rows)) × HasObjectParts rows request
IsRequest found (Routing request) =
    (rows : List Row) × (found ≡ Some (codes "routing", rows)) × HasRoutingParts rows request

-- the words are a command line, and this is what they ask for
abbrev pub AsksFor : List Text → Request → Type 0
AsksFor words request =
    (fault_of acpicheck_app words ≡ []) × IsRequest (subcommand_of acpicheck_app words) request

-- the words are no command line
abbrev pub AsksNothing : List Text → Type 0
AsksNothing words = (request : Request) → AsksFor words request → ⊥
