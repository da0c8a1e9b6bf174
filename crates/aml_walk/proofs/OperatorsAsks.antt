-- What operators ask of the kinds of their operands, and what Divide stores.
use Rattle.std.proofs.Common.{ℕ, Some, Result, Ok, Err}
use Rattle.aml_operators.specs.Tree.{Tree}
use Rattle.aml_causes.specs.declared.cause.Refusal.{Refusal}
use Rattle.aml_kinds.specs.Kinds.{IntUpTo, Kind, Shape}
use Rattle.aml_meaning.specs.declared.action.Arithmetic.{Arithmetic}
use Rattle.aml_meaning.specs.declared.action.Bitwise.{Bitwise}
use Rattle.aml_meaning.specs.declared.action.Comparison.{Comparison}
use Rattle.aml_meaning.specs.declared.action.Conversion.{Conversion}
use Rattle.aml_judged.specs.Judge.{judged_store, number_of, place, place_at}
use Rattle.aml_judged.specs.Judged as judged
use Rattle.aml_judged.specs.Judged.{Always, Around, goes, Rule, ◌>>=◌}
use Rattle.aml_judged.specs.KindRules.{DivisionKinds, combined_kind, compared_kind, concatenated_kind, converted_kind, divided_kind, negated_kind, transformed_kind}
use Rattle.aml_known.specs.declared.accepted.Yield.{Yield}
use Rattle.aml_known.specs.declared.accepted.Yield.TheVariants as yield
use Rattle.aml_known.specs.declared.stop.Stop.{Stop}
use Rattle.aml_known.specs.Views.{kind_of, yield_of}
use Rattle.aml_kind_rules.specs.declared.integers.DivisionKinds as program
use Rattle.aml_kind_rules.specs.Tells.{division_of}
use Rattle.aml_judging.specs.declared.progress.Progress.{Progress}
use Rattle.aml_judging.specs.Follows.{Judges}
use Rattle.aml_judging.proofs.Going.{stops_judge, then_judges}
use Rattle.aml_walk.proofs.OperatorsGoing.{storing, storing_goes, storing_stops}

module _ (here : Around) where
  abbrev pub asks_binary : Arithmetic → Tree → Tree → Kind → Kind → Result Kind Refusal
  asks_binary f a b j k = combined_kind here.width f (place here a) j (place here b) k (number_of here b)

  abbrev pub asks_unary : Bitwise → Tree → Kind → Result Kind Refusal
  asks_unary f a k = transformed_kind here.width f (place here a) k

  abbrev pub asks_by_one : Arithmetic → Tree → Kind → Result Kind Refusal
  asks_by_one f a k = combined_kind here.width f (place here a) k (place here a) (IntUpTo 1) (Some 1)

  abbrev pub asks_compared : Comparison → Tree → Tree → Kind → Kind → Result Kind Refusal
  asks_compared f a b j k = compared_kind here.width f (place here a) j (place here b) k

  abbrev pub asks_negated : Tree → Kind → Result Kind Refusal
  asks_negated a k = negated_kind here.width (place here a) k

  abbrev pub asks_divided : Tree → Tree → Kind → Kind → Result DivisionKinds Refusal
  asks_divided a b j k = divided_kind here.width (place here a) j (place here b) k (number_of here b)

  abbrev pub asks_converted : Conversion → ℕ → Tree → Kind → Result Kind Refusal
  asks_converted f at a k = converted_kind here.width f (place_at here at) (place here a) k

  abbrev pub asks_concatenated : ℕ → Tree → Tree → Kind → Kind → Result Kind Refusal
  asks_concatenated at a b j k = concatenated_kind (place_at here at) (place here a) j (place here b) k

  -- a value alone is given
  abbrev pub giving : Kind → Rule judged.Yield
  giving v = goes (Always v)

  -- the remainder is stored first
  abbrev pub dividing : Tree → Tree → DivisionKinds → Rule judged.Yield
  dividing r q d = judged_store here r d.remainder >>= (λ (u : Unit {0}). storing here q d.quotient)

  module _ {shapes : ℕ → Shape} (r q : Tree) (d : program.DivisionKinds) where
    pub remainder_stops : {old new : Progress} {e : Stop} → Judges shapes (λ l (u : Unit {0}). u) (judged_store here r (kind_of shapes d.remainder)) old new (Err e) → Judges shapes (λ l. yield_of shapes) (dividing r q (division_of shapes d)) old new (Err e)
    remainder_stops {e} j = stops_judge {see = λ (u : Unit {0}). u} {m = judged_store here r (kind_of shapes d.remainder)} (λ (u : Unit {0}). storing here q (kind_of shapes d.quotient)) e j

    pub remainder_on : {old mid new : Progress} (y : Result Yield Stop) → Judges shapes (λ l (u : Unit {0}). u) (judged_store here r (kind_of shapes d.remainder)) old mid (Ok tt) → Judges shapes (λ l. yield_of shapes) (storing here q (kind_of shapes d.quotient)) mid new y → Judges shapes (λ l. yield_of shapes) (dividing r q (division_of shapes d)) old new y
    remainder_on y j k = then_judges {see = λ (u : Unit {0}). u} {m = judged_store here r (kind_of shapes d.remainder)} (λ (u : Unit {0}). storing here q (kind_of shapes d.quotient)) {x = tt} y j k

    pub quotient_stops : {old mid new : Progress} {e : Stop} → Judges shapes (λ l (u : Unit {0}). u) (judged_store here r (kind_of shapes d.remainder)) old mid (Ok tt) → Judges shapes (λ l (u : Unit {0}). u) (judged_store here q (kind_of shapes d.quotient)) mid new (Err e) → Judges shapes (λ l. yield_of shapes) (dividing r q (division_of shapes d)) old new (Err e)
    quotient_stops {e} j k = remainder_on (Err e) j (storing_stops here q d.quotient k)

    pub dividing_goes : {old mid new : Progress} → Judges shapes (λ l (u : Unit {0}). u) (judged_store here r (kind_of shapes d.remainder)) old mid (Ok tt) → Judges shapes (λ l (u : Unit {0}). u) (judged_store here q (kind_of shapes d.quotient)) mid new (Ok tt) → Judges shapes (λ l. yield_of shapes) (dividing r q (division_of shapes d)) old new (Ok (yield.Always d.quotient))
    dividing_goes j k = remainder_on (Ok (yield.Always d.quotient)) j (storing_goes here q d.quotient k)
