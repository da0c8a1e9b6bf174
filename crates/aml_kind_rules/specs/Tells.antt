-- What the code's answers say in the words of the kind rules.
use Rattle.std.specs.Prelude.{◌≡◌, ℕ, Bool, true, false, Result, Ok, Err}
use Rattle.aml_kinds.specs.Kinds.{Kind, IntUpTo, BufOf, StrOf, Shape}
use Rattle.aml_judged.specs.Causes.{Cause, Refusal}
use Rattle.aml_judged.specs.KindRules as rule
use Rattle.aml_known.specs.declared.stop.Stop.{Stop}
use Rattle.aml_known.specs.declared.stop.Stop.TheVariants as stop
use Rattle.aml_known.specs.Views.{kind_of}
use Rattle.aml_meaning.specs.Rules.{Place}
use Rattle.aml_kind_rules.specs.declared.integers.DivisionKinds as program

-- two integers, two buffers or two strings
abbrev pub are_alike : Kind → Kind → Bool
are_alike (IntUpTo a) (IntUpTo b) = true
are_alike (BufOf a) (BufOf b) = true
are_alike (StrOf a) (StrOf b) = true
are_alike j k = false

-- one of these
abbrev pub may_be_equal : Kind → Bool
may_be_equal (IntUpTo a) = true
may_be_equal (BufOf a) = true
may_be_equal (StrOf a) = true
may_be_equal k = false

-- a cause at a place
abbrev pub refusal_at : Cause → Place → Refusal
refusal_at why p = record { table = p.table; at = p.at; why = why }

-- an answer, by what its value says
abbrev pub told : {X V : Type 0} → (X → V) → Result X Refusal → Result V Refusal
told see (Ok x) = Ok (see x)
told see (Err r) = Err r

-- an answer is the rule's, or tells that memory was wanted
abbrev pub Obeys : {X V : Type 0} → (X → V) → Result X Stop → Result V Refusal → Type 0
Obeys see (Ok x) rule = rule ≡ Ok (see x)
Obeys see (Err (stop.Refused r)) rule = rule ≡ Err r
Obeys see (Err stop.NoMemory) rule = Unit {0}

abbrev pub division_of : (ℕ → Shape) → program.DivisionKinds → rule.DivisionKinds
division_of shapes d =
    record { quotient = kind_of shapes d.quotient; remainder = kind_of shapes d.remainder }
