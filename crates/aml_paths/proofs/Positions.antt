-- Places in a list with one more element.
use Rattle.std.proofs.Common.{◌≡◌, ℕ, zero, suc, ◌+◌, ◌<◌, ◌⊎◌, inl, inr, List, [], ◌∷◌, ◌++◌, length, take, drop, slice_get, Some, None, Bool, true, false, refl, ap, ◌∙◌, arith}
use Rattle.std.specs.Prelude.{position, not, option_map}
use Rattle.std.proofs.lemmas.Bool.Decides.{nat_tests}
use Rattle.std.proofs.lemmas.List.{drop_more, length_push}
use Rattle.std.proofs.lemmas.List.Folds.{position_or_len_push}
use Rattle.std.proofs.lemmas.List.Sums.{prefix_len-le-length}
use Rattle.std.proofs.lemmas.Option.{get_or_from_slice_get, slice_get_within}

module _ {X : Type 0} where
  -- what stands in a list keeps its place
  pub slice_get_left : (xs ys : List X) (i : ℕ) (x : X) → slice_get xs i ≡ Some x → slice_get (xs ++ ys) i ≡ Some x
  slice_get_left [] ys i x is = absurd cc
  slice_get_left (y ∷ xs) ys zero x is = is
  slice_get_left (y ∷ xs) ys (suc i) x is = slice_get_left xs ys i x is

  pub slice_get_last : (xs : List X) (y : X) → slice_get (xs ++ y ∷ []) (length xs) ≡ Some y
  slice_get_last [] y = refl
  slice_get_last (x ∷ xs) y = slice_get_last xs y

  one_on : (xs : List X) (y z : X) (i : ℕ) (x : X) → (slice_get xs i ≡ Some x) ⊎ ((i ≡ length xs) × (x ≡ y)) → (slice_get (z ∷ xs) (suc i) ≡ Some x) ⊎ ((suc i ≡ length (z ∷ xs)) × (x ≡ y))
  one_on xs y z i x (inl is) = inl is
  one_on xs y z i x (inr new) = inr (ap suc new.0, new.1)

  -- what stands in a list with one more element stood there before, or is that element
  pub slice_get_push : (xs : List X) (y : X) (i : ℕ) (x : X) → slice_get (xs ++ y ∷ []) i ≡ Some x → (slice_get xs i ≡ Some x) ⊎ ((i ≡ length xs) × (x ≡ y))
  slice_get_push [] y zero x is = inr (refl, cc)
  slice_get_push [] y (suc i) x is = absurd cc
  slice_get_push (z ∷ xs) y zero x is = inl is
  slice_get_push (z ∷ xs) y (suc i) x is = one_on xs y z i x (slice_get_push xs y i x is)

  -- the first place at which a test passes, among some elements and one more
  pub position_stays : (p : X → Bool) (xs : List X) (y : X) (i : ℕ) → position p xs ≡ Some i → position p (xs ++ y ∷ []) ≡ Some i
  position_stays p xs y i is = grind (arith, nat_tests, position_or_len_push p xs y, length_push xs y)

  pub position_new : (p : X → Bool) (xs : List X) (y : X) → position p xs ≡ None → p y ≡ true → position p (xs ++ y ∷ []) ≡ Some (length xs)
  position_new p xs y none passes = grind (arith, nat_tests, position_or_len_push p xs y, length_push xs y, prefix_len-le-length (λ (x : X). not (p x)) xs)

  pub position_other : (p : X → Bool) (xs : List X) (y : X) → p y ≡ false → position p (xs ++ y ∷ []) ≡ position p xs
  position_other p xs y fails = grind (arith, nat_tests, position_or_len_push p xs y, length_push xs y)

  pub position_behind : (p : X → Bool) (x : X) (xs : List X) → p x ≡ false → position p (x ∷ xs) ≡ option_map suc (position p xs)
  position_behind p x xs fails = grind (arith, nat_tests, fails)

  -- what is left of a list from a place on
  pub drop_from : (xs : List X) (i : ℕ) (x : X) → slice_get xs i ≡ Some x → drop i xs ≡ x ∷ drop (i + 1) xs
  drop_from xs i x is = drop_more xs i x (slice_get_within xs i x is) ∙ ap (λ (y : X). y ∷ drop (i + 1) xs) (get_or_from_slice_get xs i x x is)

  -- what stands among the first of a list stands in the list
  pub slice_get_taken : (xs : List X) (n i : ℕ) (x : X) → i < n → slice_get xs i ≡ Some x → slice_get (take n xs) i ≡ Some x
  slice_get_taken [] n i x lt is = absurd cc
  slice_get_taken (y ∷ xs) zero i x lt is = absurd (omega arith)
  slice_get_taken (y ∷ xs) (suc n) zero x lt is = is
  slice_get_taken (y ∷ xs) (suc n) (suc i) x lt is = slice_get_taken xs n i x (omega arith) is
