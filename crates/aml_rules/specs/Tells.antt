-- What the code's answers say in the words of the rules.
use Rattle.std.specs.Prelude.{◌≡◌, Result, Ok, Err}
use Rattle.aml_meaning.specs.declared.error.AmlCause.{AmlCause}
use Rattle.aml_meaning.specs.declared.error.AmlError.{AmlError}
use Rattle.aml_meaning.specs.Elements as rules
use Rattle.aml_values.specs.Values.{Int}
use Rattle.aml_meaning.specs.Rules as rule
use Rattle.aml_meaning.specs.Rules.{Place}
use Rattle.aml_rules.specs.declared.arithmetic.Division as program_division
use Rattle.aml_rules.specs.declared.elements.ByteStore as program_store
use Rattle.aml_rules.specs.declared.place.Place as program_place
use Rattle.aml_rules.specs.declared.place.RuleFault.{RuleFault}
use Rattle.aml_rules.specs.declared.place.RuleFault.TheVariants as fault

abbrev pub place_of : program_place.Place → Place
place_of p = record { table = p.table; at = p.at }

abbrev pub store_of : program_store.ByteStore → rules.ByteStore
store_of s = record { place = s.place; byte = s.byte }

abbrev pub division_of : program_division.Division → rule.Division
division_of d = record { quotient = Int d.quotient; remainder = Int d.remainder }

-- an error at a place
abbrev pub error_at : AmlCause → Place → AmlError
error_at cause p = record { table = p.table; at = p.at; cause = cause }

-- an answer, by what its value says
abbrev pub told : {X V : Type 0} → (X → V) → Result X AmlError → Result V AmlError
told see (Ok x) = Ok (see x)
told see (Err e) = Err e

-- an answer is the rule's, by what its value says, or tells that memory was wanted
abbrev pub Obeys : {X V : Type 0} → (X → V) → Result X RuleFault → Result V AmlError → Type 0
Obeys see (Ok x) rule = rule ≡ Ok (see x)
Obeys see (Err (fault.Error e)) rule = rule ≡ Err e
Obeys see (Err fault.NoMemory) rule = Unit {0}

-- what becomes of a value that a rule makes another of where it stands: it stays where the rule has
-- an error, and for want of memory
abbrev pub GrowsBy : {V : Type 0} → Result (Unit {0}) RuleFault → Result V AmlError → V → V → Type 0
GrowsBy (Ok u) rule old new = rule ≡ Ok new
GrowsBy (Err (fault.Error e)) rule old new = (rule ≡ Err e) × (new ≡ old)
GrowsBy (Err fault.NoMemory) rule old new = new ≡ old
