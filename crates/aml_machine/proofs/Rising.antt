-- Mutexes whose levels rise.
use Rattle.std.proofs.Common.{◌≡◌, ◌≤◌, ℕ, zero, suc, List, [], ◌∷◌, ◌++◌, Bool, true, false, Some, None, refl, sym, ap, ◌∙◌, arith, subst, inl, inr}
use Rattle.std.specs.Prelude.{◌-◌, max, slice_get, take, length, ◌==◌, if◌then◌else◌}
use Rattle.std.specs.Option.{option_map}
use Rattle.std.proofs.lemmas.Bool.{and_from, and_parts, leb-true, le-leb}
use Rattle.std.proofs.lemmas.Bool.Decides.{eqb_tells}
use Rattle.aml_meaning.specs.declared.mutex.TakenMutex.{TakenMutex}
use Rattle.aml_meaning.specs.Mutexes.{without_last}
use Rattle.aml_meaning.specs.State.{greatest_level}
use Rattle.aml_machine.specs.Mutexes.{are_rising, is_empty}

max_of : (a b : ℕ) → a ≤ b → max a b ≡ b
max_of a b le = omega (arith, le)

-- one more, whose level is at least each
pub rising_more : (level : ℕ) (ms : List TakenMutex) (m : TakenMutex) → are_rising level ms ≡ true → greatest_level level ms ≤ m.level → are_rising level (ms ++ m ∷ []) ≡ true
rising_more level [] m rising le = and_from _ _ (le-leb _ _ le) refl
rising_more level (x ∷ ms) m rising le =
    let p = and_parts _ _ rising in
    let up = leb-true level x.level p.0 in
    and_from _ _ p.0 (rising_more x.level ms m p.1 (subst (λ l. greatest_level l ms ≤ m.level) (max_of level x.level up) le))

-- one more where that may be
pub rising_if : (b : Bool) (level : ℕ) (ms : List TakenMutex) (m : TakenMutex) (new : List TakenMutex) → are_rising level ms ≡ true → greatest_level level ms ≤ m.level → new ≡ (if b then ms ++ m ∷ [] else ms) → are_rising level new ≡ true
rising_if true level ms m new rising le is = rw is (rising_more level ms m rising le)
rising_if false level ms m new rising le is = rw is rising

-- behind a first one, the last is that of the others
later : (x y : TakenMutex) (ms : List TakenMutex) → slice_get (x ∷ y ∷ ms) (length (x ∷ y ∷ ms) - 1) ≡ slice_get (y ∷ ms) (length (y ∷ ms) - 1)
later x y ms = let e : length (x ∷ y ∷ ms) - 1 ≡ suc (length (y ∷ ms) - 1) = omega arith in ap (λ i. slice_get (x ∷ y ∷ ms) i) e

later_front : (x y : TakenMutex) (ms : List TakenMutex) → take (length (x ∷ y ∷ ms) - 1) (x ∷ y ∷ ms) ≡ x ∷ take (length (y ∷ ms) - 1) (y ∷ ms)
later_front x y ms = let e : length (x ∷ y ∷ ms) - 1 ≡ suc (length (y ∷ ms) - 1) = omega arith in ap (λ i. take i (x ∷ y ∷ ms)) e

-- the last is the greatest
pub greatest_last : (level : ℕ) (ms : List TakenMutex) (m : TakenMutex) → are_rising level ms ≡ true → slice_get ms (length ms - 1) ≡ Some m → greatest_level level ms ≡ m.level
greatest_last level [] m rising is = absurd cc
greatest_last level (x ∷ []) m rising is =
    let p = and_parts _ _ rising in
    let same : x ≡ m = cc in max_of level x.level (leb-true level x.level p.0) ∙ ap (λ (t : TakenMutex). t.level) same
greatest_last level (x ∷ y ∷ ms) m rising is =
    let p = and_parts _ _ rising in
    ap (λ l. greatest_level l (y ∷ ms)) (max_of level x.level (leb-true level x.level p.0)) ∙ greatest_last x.level (y ∷ ms) m p.1 (sym (later x y ms) ∙ is)

-- the first of them
pub rising_front : (level n : ℕ) (ms : List TakenMutex) → are_rising level ms ≡ true → are_rising level (take n ms) ≡ true
rising_front level zero ms rising = refl
rising_front level (suc n) [] rising = refl
rising_front level (suc n) (m ∷ ms) rising = let p = and_parts _ _ rising in and_from _ _ p.0 (rising_front m.level n ms p.1)

-- the last is released
pub last_released : (k : ℕ) (ms : List TakenMutex) (m : TakenMutex) → slice_get ms (length ms - 1) ≡ Some m → (m.object.0 == k) ≡ true → without_last k ms ≡ Some (take (length ms - 1) ms)
last_released k [] m is same = absurd cc
last_released k (x ∷ []) m is same = let e : x ≡ m = cc in rw (e, same) refl
last_released k (x ∷ y ∷ ms) m is same =
    rw (later_front x y ms) (ap (option_map (λ rest. x ∷ rest)) (last_released k (y ∷ ms) m (sym (later x y ms) ∙ is) same))

pub last_kept : (k : ℕ) (ms : List TakenMutex) (m : TakenMutex) → slice_get ms (length ms - 1) ≡ Some m → (m.object.0 == k) ≡ false → without_last k ms ≡ None
last_kept k [] m is other = absurd cc
last_kept k (x ∷ []) m is other = let same : x ≡ m = cc in rw (same, other) refl
last_kept k (x ∷ y ∷ ms) m is other = ap (option_map (λ rest. x ∷ rest)) (last_kept k (y ∷ ms) m (sym (later x y ms) ∙ is) other)

-- none, or one at least
pub none_there : (ms : List TakenMutex) → is_empty ms ≡ true → ms ≡ []
none_there [] e = refl
none_there (m ∷ ms) e = absurd cc

pub some_there : (ms : List TakenMutex) → is_empty ms ≡ false → (m : TakenMutex) × (rest : List TakenMutex) × (ms ≡ m ∷ rest)
some_there [] e = absurd cc
some_there (m ∷ ms) e = (m, ms, refl)

pub no_last : (k : ℕ) (ms : List TakenMutex) → None ≡ slice_get ms (length ms - 1) → without_last k ms ≡ None
no_last k [] is = refl
no_last k (x ∷ []) is = absurd cc
no_last k (x ∷ y ∷ ms) is = ap (option_map (λ rest. x ∷ rest)) (no_last k (y ∷ ms) (is ∙ later x y ms))

pub same_test : (a b : ℕ) → a ≡ b → (a == b) ≡ true
same_test a b e = elim (eqb_tells a b) [ inl p ↦ p.0 | inr p ↦ absurd (p.1 e) ]

pub other_test : (a b : ℕ) → (a ≡ b → ⊥) → (a == b) ≡ false
other_test a b e = elim (eqb_tells a b) [ inl p ↦ absurd (e p.1) | inr p ↦ p.0 ]
