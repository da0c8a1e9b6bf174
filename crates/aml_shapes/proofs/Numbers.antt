-- Numbers of a table that never stand for one shape.
use Rattle.std.proofs.Common.{◌≡◌, ◌<◌, ◌≤◌, ◌+◌, ℕ, zero, suc, List, [], ◌∷◌, ◌++◌, length, get_or, refl, sym, ap, ◌∙◌, inl, inr, arith}
use Rattle.std.proofs.Math.Seq.{get_or-append_seam}
use Rattle.std.proofs.lemmas.Bool.{cases_lt}
use Rattle.std.proofs.lemmas.List.{get_or_append_left, get_or_default, get_or_past, length_push}
use Rattle.aml_kinds.specs.Kinds.{Shape, bare, with, places}
use Rattle.aml_contents.specs.DataKinds.{counted_places}
use Rattle.aml_known.specs.Views.{AreApart}
use Rattle.aml_shapes.specs.Numbers.{numbered, wider, widest}

pub places_counted : (n : ℕ) (s : Shape) → places (counted_places n s) ≡ n
places_counted zero s = refl
places_counted (suc n) bare = ap suc (places_counted n bare)
places_counted (suc n) (with e s) = ap suc (places_counted n s)

-- no shape is wider than the widest
below_widest : (shapes : List Shape) (i : ℕ) (d : Shape) → i < length shapes → places (get_or shapes i d) ≤ widest shapes
below_widest [] i d lt = absurd (omega arith)
below_widest (s ∷ shapes) zero d lt = omega arith
below_widest (s ∷ shapes) (suc i) d lt = let rest = below_widest shapes i d (omega arith) in omega arith

numbered_within : (shapes : List Shape) (i : ℕ) → i < length shapes → places (numbered shapes i) ≤ widest shapes
unfolding numbered
numbered_within shapes i lt = below_widest shapes i (wider shapes i) lt

numbered_past : (shapes : List Shape) (i : ℕ) → length shapes ≤ i → places (numbered shapes i) ≡ suc (widest shapes + i)
unfolding numbered
numbered_past shapes i le =
    ap places (get_or_past shapes i (wider shapes i) le) ∙ places_counted (suc (widest shapes + i)) bare

-- what a number stands for stays with one shape more
pub numbered_left : (shapes : List Shape) (s : Shape) (i : ℕ) → i < length shapes → numbered (shapes ++ s ∷ []) i ≡ numbered shapes i
unfolding numbered
numbered_left shapes s i lt =
    get_or_append_left shapes (s ∷ []) (wider (shapes ++ s ∷ []) i) i lt ∙ get_or_default shapes i (wider (shapes ++ s ∷ []) i) (wider shapes i) lt

pub numbered_last : (shapes : List Shape) (s : Shape) → numbered (shapes ++ s ∷ []) (length shapes) ≡ s
unfolding numbered
numbered_last shapes s = get_or-append_seam shapes s [] (wider (shapes ++ s ∷ []) (length shapes))

-- shapes that are all different are so among all that numbers stand for
apart_within : (shapes : List Shape) → ((i j : ℕ) → i < length shapes → j < length shapes → numbered shapes i ≡ numbered shapes j → i ≡ j) → (i j : ℕ) → numbered shapes i ≡ numbered shapes j → i ≡ j
apart_within shapes different i j same =
    let wide : places (numbered shapes i) ≡ places (numbered shapes j) = ap places same in
    elim (cases_lt i (length shapes)) [
      | inl i_in ↦ elim (cases_lt j (length shapes)) [
        | inl j_in ↦ different i j i_in j_in same
        | inr j_past ↦ let low = numbered_within shapes i i_in in let high = numbered_past shapes j j_past in absurd (omega arith)
      ]
      | inr i_past ↦ elim (cases_lt j (length shapes)) [
        | inl j_in ↦ let low = numbered_within shapes j j_in in let high = numbered_past shapes i i_past in absurd (omega arith)
        | inr j_past ↦ let at = numbered_past shapes i i_past in let other = numbered_past shapes j j_past in omega arith
      ]
    ]

pub apart_none : AreApart (numbered [])
apart_none = record { apart = apart_within [] (λ i j i_in j_in same. absurd (omega arith)) }

module _ (shapes : List Shape) (s : Shape) (before : AreApart (numbered shapes)) (new : (i : ℕ) → i < length shapes → numbered shapes i ≡ s → ⊥) where
  -- a number that is below the length, or that of the new shape
  apart_two : (i j : ℕ) → i < length (shapes ++ s ∷ []) → j < length (shapes ++ s ∷ []) → numbered (shapes ++ s ∷ []) i ≡ numbered (shapes ++ s ∷ []) j → i ≡ j
  apart_two i j i_in j_in same =
      let long = length_push shapes s in
      elim (cases_lt i (length shapes)) [
        | inl i_old ↦ elim (cases_lt j (length shapes)) [
          | inl j_old ↦ before.apart i j (sym (numbered_left shapes s i i_old) ∙ same ∙ numbered_left shapes s j j_old)
          | inr j_new ↦ absurd (new i i_old (sym (numbered_left shapes s i i_old) ∙ same ∙ ap (numbered (shapes ++ s ∷ [])) (omega arith) ∙ numbered_last shapes s))
        ]
        | inr i_new ↦ elim (cases_lt j (length shapes)) [
          | inl j_old ↦ absurd (new j j_old (sym (numbered_left shapes s j j_old) ∙ sym same ∙ ap (numbered (shapes ++ s ∷ [])) (omega arith) ∙ numbered_last shapes s))
          | inr j_new ↦ omega arith
        ]
      ]

  -- and so with one shape more, which was not there
  pub apart_more : AreApart (numbered (shapes ++ s ∷ []))
  apart_more = record { apart = apart_within (shapes ++ s ∷ []) apart_two }
