-- Laws of what words ask for.
use Rattle.std.proofs.Common.{◌≡◌, ◌<◌, ◌^◌, ℕ, List, [], Option, Some, None, Result, Ok, Err, ap, ap₂, inl, inr, refl, sym, subst, codes, option_map, true}
use Rattle.std.specs.Str.Parse.{ParsesUnsigned}
use Rattle.clap.specs.Words.{IsAmong, Row, Text, fault_of, is_simple, is_simple_and_free, subcommand_of}
use Rattle.clap.specs.declared.error.ErrorKind.{ErrorKind}
use Rattle.acpi_words.specs.CommandLine.{acpicheck_app}
use Rattle.acpi_sources.specs.Faults.{Tries, nowhere}
use Rattle.acpi_words.specs.Words.{AsksFor, AsksNothing, IsCount, IsRequest}
use Rattle.acpi_sources.specs.declared.fault.Fault.{Fault}
use Rattle.acpi_sources.specs.declared.fault.FaultCause.TheVariants as cause
use Rattle.acpi_words.specs.declared.words.Request.{Request}
use Rattle.acpi_words.specs.declared.words.Request.TheVariants.{Tables, Names, Verify, Eval, Resources, Routing}

-- `clap` says of this command line what it takes
pub takes_words : is_simple acpicheck_app ≡ true
takes_words = refl

pub takes_simple_words : is_simple_and_free acpicheck_app ≡ true
takes_simple_words = refl

-- two parts that were told apart
pub joined_parts : {B X Y : Type 0} (p : B → X × Y) (o : Option B) (x : X) (y : Y)
    → Some x ≡ option_map (λ b. (p b).0) o → Some y ≡ option_map (λ (q : X × Y). q.1) (option_map p o)
    → option_map p o ≡ Some (x, y)
joined_parts p None x y first second = absurd (cc)
joined_parts {B} {X} {Y} p (Some b) x y first second =
    let left : x ≡ (p b).0 = cc in
    let right : y ≡ (p b).1 = cc in
    let pair : X → Y → Option (X × Y) = λ a c. Some (a, c) in
    ap₂ pair (sym left) (sym right)

pub none_before : {X Y : Type 0} (f : X → Y) (o : Option X) → None ≡ option_map f o → o ≡ None
none_before f None e = refl
none_before f (Some x) e = absurd (cc)

-- no command, no request
pub nothing_of_none : (r : Request) → IsRequest None r → ⊥
nothing_of_none (Tables names) (rows, is, files) = absurd (cc)
nothing_of_none (Names names) (rows, is, inputs) = absurd (cc)
nothing_of_none (Verify request) (rows, is, parts) = absurd (cc)
nothing_of_none (Eval request) (rows, is, parts) = absurd (cc)
nothing_of_none (Resources request) (rows, is, parts) = absurd (cc)
nothing_of_none (Routing request) (rows, is, parts) = absurd (cc)

abbrev name_in : Option (Text × List Row) → Text
name_in None = []
name_in (Some p) = p.0

-- another command, no request
pub nothing_of_other : (name : Text) (rows : List Row) → (name ≡ codes "tables" → ⊥) → (name ≡ codes "names" → ⊥) → (name ≡ codes "verify" → ⊥)
    → (name ≡ codes "eval" → ⊥) → (name ≡ codes "resources" → ⊥) → (name ≡ codes "routing" → ⊥)
    → (r : Request) → IsRequest (Some (name, rows)) r → ⊥
nothing_of_other name rows first second third fourth fifth sixth (Tables names) (others, is, files) = first (ap name_in is)
nothing_of_other name rows first second third fourth fifth sixth (Names names) (others, is, inputs) = second (ap name_in is)
nothing_of_other name rows first second third fourth fifth sixth (Verify request) (others, is, parts) = third (ap name_in is)
nothing_of_other name rows first second third fourth fifth sixth (Eval request) (others, is, parts) = fourth (ap name_in is)
nothing_of_other name rows first second third fourth fifth sixth (Resources request) (others, is, parts) = fifth (ap name_in is)
nothing_of_other name rows first second third fourth fifth sixth (Routing request) (others, is, parts) = sixth (ap name_in is)

-- a value that is not there is none of a request
pub missing : (o : Option Text) (t : Text) → None ≡ o → o ≡ Some t → ⊥
missing o t none some = cc

-- the number of steps that was read
pub steps_read : {E : Type 0} (G : Text → Result ℕ E → Type 0) (o : Option Text) (n : ℕ)
    → ((t : Text) (r : Result ℕ E) → G t r → ParsesUnsigned 64 10 t r)
    → (o ≡ None → Some n ≡ None) → ((t : Text) → o ≡ Some t → G t (Ok n))
    → (t : Text) × (o ≡ Some t) × IsCount t n
steps_read G None n parses none value = let e : Some n ≡ None = none refl in absurd (cc)
steps_read G (Some t) n parses none value =
    let read = parses t (Ok n) (value t refl) in
    (t, refl, (read.0.0, subst (λ m. m < 2 ^ 64) (sym read.1) read.0.1, read.1))

-- the words ask for what the command that they name gave
pub asked : (words : List Text) (found : Option (Text × List Row)) (r : Result Request Fault)
    → fault_of acpicheck_app words ≡ [] → found ≡ subcommand_of acpicheck_app words
    → Tries (IsRequest found) (λ f. (f ≡ nowhere cause.CommandLine) × ((request : Request) → IsRequest found request → ⊥)) r
    → Tries (AsksFor words) (λ f. (f ≡ nowhere cause.CommandLine) × AsksNothing words) r
asked words found (Ok request) none same is = (none, subst (λ f. IsRequest f request) same is)
asked words found (Err f) none same (inl memory) = inl memory
asked words found (Err f) none same (inr (line, nothing)) =
    inr (line, λ request asks. nothing request (subst (λ f. IsRequest f request) (sym same) asks.1))

-- a kind of error that the command line gives at the words
pub asks_nothing : (words : List Text) (k : ErrorKind) → IsAmong k (fault_of acpicheck_app words) → AsksNothing words
asks_nothing words k among request asks = subst (IsAmong k) asks.0 among
