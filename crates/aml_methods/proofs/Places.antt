-- Where methods stand, by their numbers and in an order.
use Rattle.std.proofs.Common.{◌≡◌, ◌≢◌, ◌<◌, ◌+◌, ℕ, zero, suc, List, [], ◌∷◌, ◌++◌, length, take, slice_get, get_or, Option, Some, None, refl, sym, ap, subst, ◌∙◌, add-one, arith}
use Rattle.std.proofs.lemmas.Bool.{eqb-true}
use Rattle.std.proofs.lemmas.Option.{same_Some}
use Rattle.std.specs.Prelude.{Bool, true, false, ◌==◌, ◌||◌}
use Rattle.aml_paths.specs.Paths.{Path}
use Rattle.aml_paths.specs.declared.scope.ObjectId.{ObjectId}
use Rattle.aml_calls.specs.Chains.{is_among}
use Rattle.aml_calls.specs.Pairs.{numbers}
use Rattle.aml_calls.proofs.Among.{among_append, same_number}
use Rattle.aml_objects.specs.declared.object.Entry.{Entry}
use Rattle.aml_objects.specs.declared.object.Method.{Method}
use Rattle.aml_namespace.specs.Load.{Shown}
use Rattle.aml_namespace.specs.Names.{method_at}

-- by whether a number is another
pub by_same : (P : Type 0) (i k : ℕ) → (i ≡ k → P) → (i ≢ k → P) → P
by_same P i k same other = by (i == k) refl
  where
    by : (b : Bool) → (i == k) ≡ b → P
    by true e = same (eqb-true i k e)
    by false e = other (λ eq. let bad : true ≡ false = sym (subst (λ n. (n == k) ≡ true) (sym eq) (same_number k)) ∙ e in cc)

pub within : {X : Type 0} (xs : List X) (i : ℕ) (x : X) → slice_get xs i ≡ Some x → i < length xs
within [] i x e = absurd cc
within (y ∷ xs) zero x e = omega arith
within (y ∷ xs) (suc i) x e = let r = within xs i x e in omega (arith, r)

-- a method has a number that an entry has
pub method_within : (ns : Shown) (k : ℕ) (m : Method) → method_at ns k ≡ Some m → k < length ns.entries
method_within ns k m is = by (slice_get ns.entries k) refl
  where
    by : (o : Option (Path × Entry)) → slice_get ns.entries k ≡ o → k < length ns.entries
    by None e = absurd (let bad = rw e at is in cc)
    by (Some x) e = within ns.entries k x e

-- the methods up to a place, and the one there
one_taken : (ks : List ℕ) (i k : ℕ) → slice_get ks i ≡ Some k → take (suc i) ks ≡ take i ks ++ k ∷ []
one_taken [] i k e = absurd cc
one_taken (x ∷ ks) zero k e = ap (λ y. y ∷ []) (same_Some x k e)
one_taken (x ∷ ks) (suc i) k e = ap (λ ys. x ∷ ys) (one_taken ks i k e)

pub taken_or : (ks : List ℕ) (i k j : ℕ) → slice_get ks i ≡ Some k → is_among j (take (i + 1) ks) ≡ (is_among j (take i ks) || ((j == k) || false))
taken_or ks i k j at = ap (λ n. is_among j (take n ks)) (add-one i) ∙ ap (is_among j) (one_taken ks i k at) ∙ among_append j (take i ks) (k ∷ [])

-- what stands before or is the next, and is not the next, stands before
pub before : (order : List ℕ) (so_far k i : ℕ) → slice_get order so_far ≡ Some k → is_among i (take (so_far + 1) order) ≡ true → i ≢ k → is_among i (take so_far order) ≡ true
before order so_far k i at among other = either (is_among i (take so_far order)) (i == k) (sym (taken_or order so_far k i at) ∙ among) (differs (i == k) refl)
  where
    either : (p q : Bool) → (p || (q || false)) ≡ true → q ≡ false → p ≡ true
    either true q e f = refl
    either false true e f = absurd cc
    either false false e f = absurd cc

    differs : (b : Bool) → (i == k) ≡ b → b ≡ false
    differs true e = absurd (other (eqb-true i k e))
    differs false e = refl

-- the number of a method that stands at a place
pub number_at : (ids : List ObjectId) (i : ℕ) (d : ObjectId) → i < length ids → slice_get (numbers ids) i ≡ Some (get_or ids i d).0
number_at [] i d lt = absurd (omega (arith, lt))
number_at (x ∷ ids) zero d lt = refl
number_at (x ∷ ids) (suc i) d lt = number_at ids i d (omega (arith, lt))

pub number_there : (ids : List ObjectId) (i : ℕ) (id : ObjectId) → i < length ids → id ≡ get_or ids i id → slice_get (numbers ids) i ≡ Some id.0
number_there ids i id lt e = number_at ids i id lt ∙ ap (λ (o : ObjectId). Some o.0) (sym e)
