-- The methods that were begun and never placed, one mark after the other.
use Rattle.std.proofs.Common.{◌≡◌, ◌≢◌, ◌<◌, ◌≤◌, ◌+◌, ℕ, zero, suc, List, [], ◌∷◌, ◌++◌, length, get_or, refl, sym, ap, ◌∙◌, subst, arith, inl, inr}
use Rattle.std.proofs.lemmas.Bool.Decides.{leb_tells}
use Rattle.std.proofs.lemmas.Option.{slice_get_past}
use Rattle.std.specs.Prelude.{Bool, true, false, unwrap_or}
use Rattle.aml_calls.specs.declared.order.Mark.{Mark}
use Rattle.aml_calls.specs.declared.order.Mark.TheVariants.{New}
use Rattle.aml_calls.specs.Chains.{has_cycle, is_among}
use Rattle.aml_calls.specs.Search.{AreLeft, is_begun, mark_at}
use Rattle.aml_calls.proofs.Among.{among_front, among_last, append_cases, is_false, not_both, twice_push}
use Rattle.aml_calls.proofs.Marks.{mark_get}
use Rattle.aml_calls.proofs.Searching.{same_or_other}

-- those among the first marks
pub record LeftSoFar (marks : List Mark) (i : ℕ) (ks : List ℕ) : Type 0 where
  pub begun : (k : ℕ) → k < i → is_among k ks ≡ is_begun (mark_at marks k)
  pub below : (k : ℕ) → is_among k ks ≡ true → k < i
  pub once : has_cycle ks ≡ false

pub left_none : (marks : List Mark) → LeftSoFar marks 0 []
left_none marks = record { begun = λ k lt. absurd (omega (arith, lt)); below = λ k e. absurd cc; once = refl }

pub mark_any : (marks : List Mark) (i : ℕ) (d : Mark) → i < length marks → mark_at marks i ≡ get_or marks i d
mark_any marks i d lt = mark_get marks i ∙ other_default marks i New d lt
  where
    other_default : (xs : List Mark) (i : ℕ) (c d : Mark) → i < length xs → get_or xs i c ≡ get_or xs i d
    other_default [] i c d lt = absurd (omega arith)
    other_default (x ∷ xs) zero c d lt = refl
    other_default (x ∷ xs) (suc i) c d lt = other_default xs i c d (omega arith)

-- one more that was begun, and one that was not
pub left_more : (marks : List Mark) (i : ℕ) (ks : List ℕ) → i < length marks → is_begun (mark_at marks i) ≡ true → LeftSoFar marks i ks → LeftSoFar marks (i + 1) (ks ++ i ∷ [])
left_more marks i ks lt begun h = record {
  begun = λ k le. same_or_other (is_among k (ks ++ i ∷ []) ≡ is_begun (mark_at marks k)) k i
      (λ same. subst (λ j. is_among j (ks ++ i ∷ []) ≡ is_begun (mark_at marks j)) (sym same) (among_last i ks ∙ sym begun))
      (λ other. not_last k other ∙ h.begun k (omega (arith, le, other)));
  below = λ k e. append_cases (k < i + 1) k i ks e (λ f. let below = h.below k f in omega (arith, below)) (λ same. omega (arith, same));
  once = twice_push i ks h.once (is_false (is_among i ks) (λ e. let below = h.below i e in absurd (omega (arith, below))));
}
  where
    not_last : (k : ℕ) → k ≢ i → is_among k (ks ++ i ∷ []) ≡ is_among k ks
    not_last k other = by (is_among k ks) refl
      where
        by : (b : Bool) → is_among k ks ≡ b → is_among k (ks ++ i ∷ []) ≡ is_among k ks
        by true e = among_front k ks (i ∷ []) e ∙ sym e
        by false e = is_false (is_among k (ks ++ i ∷ [])) (λ f. append_cases ⊥ k i ks f (λ g. not_both (is_among k ks) g e) other) ∙ sym e

pub left_same : (marks : List Mark) (i : ℕ) (ks : List ℕ) → i < length marks → is_begun (mark_at marks i) ≡ false → LeftSoFar marks i ks → LeftSoFar marks (i + 1) ks
left_same marks i ks lt not h = record {
  begun = λ k le. same_or_other (is_among k ks ≡ is_begun (mark_at marks k)) k i
      (λ same. subst (λ j. is_among j ks ≡ is_begun (mark_at marks j)) (sym same) (is_false (is_among i ks) (λ e. let below = h.below i e in omega (arith, below)) ∙ sym not))
      (λ other. h.begun k (omega (arith, le, other)));
  below = λ k e. let below = h.below k e in omega (arith, below);
  once = h.once;
}

-- all marks
pub left_all : (marks : List Mark) (i : ℕ) (ks : List ℕ) → length marks ≤ i → i ≤ length marks → LeftSoFar marks i ks → AreLeft marks ks
left_all marks i ks le ge h = record {
  begun = λ k. elim (leb_tells i k) [
    | inl e ↦ is_false (is_among k ks) (λ f. let below = h.below k f in let past = e.1 in omega (arith, below, past)) ∙ sym (ap (λ o. is_begun (unwrap_or o New)) (slice_get_past marks k (let past = e.1 in omega (arith, le, past))))
    | inr e ↦ h.begun k e.1
  ];
  once = h.once;
}
