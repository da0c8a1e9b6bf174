-- The structures at the front of a list of bytes, one by one.
use Rattle.std.proofs.Common.{◌≡◌, ◌<◌, ◌≤◌, ℕ, zero, suc, Bool, true, false, List, [], ◌∷◌, length, take, drop, slice_index, arith, refl, ◌∙◌, ap, sym, inl, inr, length-drop}
use Rattle.std.proofs.lemmas.Bool.{leb-true, and_parts, cases_Bool}
use Rattle.std.proofs.lemmas.Bool.Decides.{nat_tests}
use Rattle.std.proofs.lemmas.List.{length-take-le}
use Rattle.acpi_tables.specs.Structure.{layout_size, begins_structure, structures_up_to, structures}

-- every layout has a type and a length
pub layout_least : (kind : ℕ) → 2 ≤ layout_size kind
unfolding layout_size
layout_least kind = grind (arith, nat_tests)

pub record IsFront (bytes : List ℕ) : Type 0 where
  pub least : 2 ≤ length bytes
  pub laid_out : layout_size (slice_index bytes 0) ≤ slice_index bytes 1
  pub within : slice_index bytes 1 ≤ length bytes

-- what the test of a structure tells
pub front_true : (bytes : List ℕ) → begins_structure bytes ≡ true → IsFront bytes
unfolding begins_structure
front_true bytes e =
    let p = and_parts _ _ e in
    let q = and_parts _ _ p.0 in
    record { least = leb-true _ _ q.0; laid_out = leb-true _ _ q.1; within = leb-true _ _ p.1 }

pub front_passes : (bytes : List ℕ) → IsFront bytes → begins_structure bytes ≡ true
unfolding begins_structure
front_passes bytes f = grind (arith, nat_tests, f.least, f.laid_out, f.within)

pub front_fails : (bytes : List ℕ) → (IsFront bytes → ⊥) → begins_structure bytes ≡ false
front_fails bytes refuted = case (begins_structure bytes) refl
  where
    case : (b : Bool) → begins_structure bytes ≡ b → begins_structure bytes ≡ false
    case true e = absurd (refuted (front_true bytes e))
    case false e = e

-- no structure at the front: there is none
none_front : (n : ℕ) (bytes : List ℕ) → begins_structure bytes ≡ false → structures_up_to n bytes ≡ []
unfolding structures_up_to
none_front zero bytes e = refl
none_front (suc n) bytes e = rw e refl

-- one at the front, and those behind it
one_front : (n : ℕ) (bytes : List ℕ) → begins_structure bytes ≡ true → structures_up_to (suc n) bytes ≡ take (slice_index bytes 1) bytes ∷ structures_up_to n (drop (slice_index bytes 1) bytes)
unfolding structures_up_to
one_front n bytes e = rw e refl

-- what a structure leaves is shorter
behind_shorter : (bytes : List ℕ) (n : ℕ) → begins_structure bytes ≡ true → length bytes ≤ suc n → length (drop (slice_index bytes 1) bytes) ≤ n
behind_shorter bytes n e h =
    let f = front_true bytes e in
    let k = layout_least (slice_index bytes 0) in
    omega (arith, length-drop (slice_index bytes 1) bytes, f.laid_out, f.within)

no_front_empty : (bytes : List ℕ) → length bytes ≤ 0 → begins_structure bytes ≡ false
no_front_empty bytes h = front_fails bytes (λ f. let l = f.least in absurd (omega arith))

-- a greater bound changes nothing
enough : (n m : ℕ) (bytes : List ℕ) → length bytes ≤ n → length bytes ≤ m → structures_up_to n bytes ≡ structures_up_to m bytes
enough zero m bytes h k =
    let e = no_front_empty bytes h in none_front zero bytes e ∙ sym (none_front m bytes e)
enough (suc n) zero bytes h k =
    let e = no_front_empty bytes k in none_front (suc n) bytes e ∙ sym (none_front zero bytes e)
enough (suc n) (suc m) bytes h k =
    elim (cases_Bool (begins_structure bytes)) [
      | inl e ↦ one_front n bytes e
          ∙ (ap (λ rest. take (slice_index bytes 1) bytes ∷ rest)
          (enough n m (drop (slice_index bytes 1) bytes) (behind_shorter bytes n e h) (behind_shorter bytes m e k))
          ∙ sym (one_front m bytes e))
      | inr e ↦ none_front (suc n) bytes e ∙ sym (none_front (suc m) bytes e)
    ]

-- what is too short for a structure, or has none at its front, has no structures
pub no_structures : (bytes : List ℕ) → (IsFront bytes → ⊥) → structures bytes ≡ []
unfolding structures
no_structures bytes refuted = none_front (length bytes) bytes (front_fails bytes refuted)

-- a structure at the front is the first
pub first_of_structures : (bytes : List ℕ) → IsFront bytes → structures bytes ≡ take (slice_index bytes 1) bytes ∷ structures (drop (slice_index bytes 1) bytes)
unfolding structures
first_of_structures bytes f =
    let e = front_passes bytes f in
    let rest = drop (slice_index bytes 1) bytes in
    enough (length bytes) (suc (length bytes)) bytes (omega arith) (omega arith)
    ∙ (one_front (length bytes) bytes e
    ∙ ap (λ more. take (slice_index bytes 1) bytes ∷ more)
    (enough (length bytes) (length rest) rest (behind_shorter bytes (length bytes) e (omega arith)) (omega arith)))

-- the same as tests on numbers
pub none_short : (bytes : List ℕ) → length bytes < 2 → structures bytes ≡ []
none_short bytes h = no_structures bytes (λ f. let l = f.least in absurd (omega arith))

pub none_small : (bytes : List ℕ) → slice_index bytes 1 < layout_size (slice_index bytes 0) → structures bytes ≡ []
none_small bytes h = no_structures bytes (λ f. let l = f.laid_out in absurd (omega arith))

pub none_past : (bytes : List ℕ) → length bytes < slice_index bytes 1 → structures bytes ≡ []
none_past bytes h = no_structures bytes (λ f. let l = f.within in absurd (omega arith))

pub one_more : (bytes : List ℕ) → 2 ≤ length bytes → layout_size (slice_index bytes 0) ≤ slice_index bytes 1 → slice_index bytes 1 ≤ length bytes → structures bytes ≡ take (slice_index bytes 1) bytes ∷ structures (drop (length (take (slice_index bytes 1) bytes)) bytes)
one_more bytes l d w =
    rw (length-take-le (slice_index bytes 1) bytes w)
    (first_of_structures bytes (record { least = l; laid_out = d; within = w }))

pub ruleset fronts = (none_short, none_small, none_past, one_more)
