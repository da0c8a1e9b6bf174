-- What is held where ways meet, and the levels that are taken.
use Rattle.std.proofs.Common.{◌≡◌, ◌≤◌, ℕ, min, max, List, [], ◌∷◌, Option, Some, None, refl, sym, ◌∙◌, subst, arith}
use Rattle.std.specs.Prelude.{Bool, true, false, ◌==◌, ◌&&◌, nat_le, if◌then◌else◌}
use Rattle.std.proofs.lemmas.Bool.{and_parts, eqb-true, leb-true}
use Rattle.std.proofs.lemmas.Bool.Decides.{nat_tests}
use Rattle.aml_meaning.specs.declared.mutex.TakenMutex.{TakenMutex}
use Rattle.aml_meaning.specs.State.{greatest_level}
use Rattle.aml_judged.specs.Known.{Held, These, Different, same_mutexes, same_held, join_held}
use Rattle.aml_judged.specs.Judged.{either}
use Rattle.aml_judged.specs.Safe.{Allows, FitsHeld}

same_mutex : (a b : TakenMutex) → a.object.0 ≡ b.object.0 → a.level ≡ b.level → a ≡ b
same_mutex a b e f = λ i. record { object = record { 0 = e i }; level = f i }

pub mutexes_equal : (ms ns : List TakenMutex) → same_mutexes ms ns ≡ true → ms ≡ ns
mutexes_equal [] [] e = refl
mutexes_equal (a ∷ ms) (b ∷ ns) e =
    let two = and_parts (a.object.0 == b.object.0) ((a.level == b.level) && same_mutexes ms ns) e in
    let last = and_parts (a.level == b.level) (same_mutexes ms ns) two.1 in
    let p = same_mutex a b (eqb-true a.object.0 b.object.0 two.0) (eqb-true a.level b.level last.0) in
    let q = mutexes_equal ms ns last.1 in
    λ i. p i ∷ q i
mutexes_equal [] (b ∷ ns) e = absurd cc
mutexes_equal (a ∷ ms) [] e = absurd cc

pub held_left : (ms : List TakenMutex) (j k : Held) → FitsHeld ms j → FitsHeld ms (join_held j k)
held_left ms (These a) (These b) h = by (same_mutexes a b)
  where
    by : (c : Bool) → FitsHeld ms (if c then These a else Different)
    by true = h
    by false = tt
held_left ms (These a) Different h = tt
held_left ms Different k h = tt

pub held_right : (ms : List TakenMutex) (j k : Held) → FitsHeld ms k → FitsHeld ms (join_held j k)
held_right ms (These a) (These b) h = by (same_mutexes a b) refl
  where
    by : (c : Bool) → same_mutexes a b ≡ c → FitsHeld ms (if c then These a else Different)
    by true e = h ∙ sym (mutexes_equal a b e)
    by false e = tt
held_right ms (These a) Different h = tt
held_right ms Different k h = tt

pub held_same : (ms : List TakenMutex) (j k : Held) → same_held j k ≡ true → FitsHeld ms j → FitsHeld ms k
held_same ms (These a) (These b) e h = h ∙ mutexes_equal a b e
held_same ms (These a) Different e h = tt
held_same ms Different (These b) e h = absurd cc
held_same ms Different Different e h = tt

-- what the lesser of two levels allows is allowed by each
pub allows_left : (a b : Option ℕ) (level : ℕ) → Allows (either min a b) level → Allows a level
allows_left (Some a) (Some b) level h = omega (arith, h)
allows_left (Some a) None level h = h
allows_left None b level h = tt

pub allows_right : (a b : Option ℕ) (level : ℕ) → Allows (either min a b) level → Allows b level
allows_right (Some a) (Some b) level h = omega (arith, h)
allows_right (Some a) None level h = tt
allows_right None b level h = h

-- the greatest level of some is at least the level that it begins with
level_first : (a : ℕ) (ms : List TakenMutex) → a ≤ greatest_level a ms
level_first a [] = omega arith
level_first a (m ∷ ms) = let next = level_first (max a m.level) ms in omega (arith, next)

-- if what some hold is low, and what others hold is, both are
level_both : (a b l : ℕ) (ms : List TakenMutex) → greatest_level a ms ≤ l → b ≤ l → greatest_level b ms ≤ l
level_both a b l [] h g = g
level_both a b l (m ∷ ms) h g =
    let first = level_first (max a m.level) ms in
    level_both (max a m.level) (max b m.level) l ms h (omega (arith, first, h, g))

le_test : (m n : ℕ) → m ≤ n → nat_le m n ≡ true
le_test m n h = grind (arith, nat_tests)

-- a level that is at least each of the method's and its callers'
pub level_allowed : (above l outside : ℕ) (held ms : List TakenMutex) → held ≡ ms → outside ≡ above → nat_le (greatest_level 0 ms) l ≡ true → above ≤ l → greatest_level outside held ≤ l
level_allowed above l outside held ms e f low le =
    subst (λ o. greatest_level o held ≤ l) (sym f) (subst (λ hs. greatest_level above hs ≤ l) (sym e) (level_both 0 above l ms (leb-true (greatest_level 0 ms) l low) le))

pub level_passes : (above l outside : ℕ) (held ms : List TakenMutex) → held ≡ ms → outside ≡ above → nat_le (greatest_level 0 ms) l ≡ true → above ≤ l → nat_le (greatest_level outside held) l ≡ true
level_passes above l outside held ms e f low le = le_test (greatest_level outside held) l (level_allowed above l outside held ms e f low le)
