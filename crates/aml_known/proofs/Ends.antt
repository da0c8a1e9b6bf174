-- Lists of mutexes, by what stands at their ends.
use Rattle.std.proofs.Common.{◌≡◌, ◌==◌, ◌&&◌, ◌++◌, ℕ, List, [], ◌∷◌, Bool, true, false, Option, Some, None, refl, ap, ◌∙◌, inl, inr, arith}
use Rattle.std.specs.Prelude.{max, if◌then◌else◌}
use Rattle.std.specs.List.{last_or}
use Rattle.std.specs.Option.{option_map}
use Rattle.std.proofs.lemmas.Bool.Decides.{eqb_tells, nat_tests}
use Rattle.aml_judged.specs.Known.{same_mutexes}
use Rattle.aml_meaning.specs.declared.mutex.TakenMutex.{TakenMutex}
use Rattle.aml_meaning.specs.Mutexes.{without_last}
use Rattle.aml_meaning.specs.State.{greatest_level}

number_same : (n : ℕ) → (n == n) ≡ true
number_same n = grind (arith, nat_tests)

abbrev pub is_same : TakenMutex → TakenMutex → Bool
is_same a b = (a.object.0 == b.object.0) && (a.level == b.level)

-- tests that are joined in another order
last_alone : (a b : Bool) → (a && (b && true)) ≡ (true && (a && b))
last_alone true true = refl
last_alone true false = refl
last_alone false b = refl

never : (a b c : Bool) → (a && (b && false)) ≡ (false && c)
never true true c = refl
never true false c = refl
never false b c = refl

last_later : (a b c d : Bool) → (a && (b && (c && d))) ≡ ((a && (b && c)) && d)
last_later true true c d = refl
last_later true false c d = refl
last_later false b c d = refl

pub no_more : (ms : List TakenMutex) (m : TakenMutex) → same_mutexes [] (ms ++ m ∷ []) ≡ false
no_more [] m = refl
no_more (n ∷ ms) m = refl

-- what stands at a list's end is its last
pub last_end : (o : Option TakenMutex) (ms : List TakenMutex) (m : TakenMutex) → last_or o (ms ++ m ∷ []) ≡ Some m
last_end o [] m = refl
last_end o (n ∷ ms) m = last_end (Some n) ms m

pub some_more : (ms : List TakenMutex) (m : TakenMutex) → same_mutexes (ms ++ m ∷ []) [] ≡ false
some_more [] m = refl
some_more (n ∷ ms) m = refl

-- two lists are the same where their fronts are, and what stands at their ends is
pub same_ends : (xs ys : List TakenMutex) (a b : TakenMutex) → same_mutexes (xs ++ a ∷ []) (ys ++ b ∷ []) ≡ (same_mutexes xs ys && is_same a b)
same_ends [] [] a b = last_alone (a.object.0 == b.object.0) (a.level == b.level)
same_ends [] (y ∷ ys) a b =
    ap (λ r. (a.object.0 == y.object.0) && ((a.level == y.level) && r)) (no_more ys b)
    ∙ never (a.object.0 == y.object.0) (a.level == y.level) (is_same a b)
same_ends (x ∷ xs) [] a b =
    ap (λ r. (x.object.0 == b.object.0) && ((x.level == b.level) && r)) (some_more xs a)
    ∙ never (x.object.0 == b.object.0) (x.level == b.level) (is_same a b)
same_ends (x ∷ xs) (y ∷ ys) a b =
    ap (λ r. (x.object.0 == y.object.0) && ((x.level == y.level) && r)) (same_ends xs ys a b)
    ∙ last_later (x.object.0 == y.object.0) (x.level == y.level) (same_mutexes xs ys) (is_same a b)

pub and_true : (b : Bool) → (b && true) ≡ b
and_true true = refl
and_true false = refl

pub and_false : (b : Bool) → (b && false) ≡ false
and_false true = refl
and_false false = refl

pub mutexes_same : (ms : List TakenMutex) → same_mutexes ms ms ≡ true
mutexes_same [] = refl
mutexes_same (m ∷ ms) = rw (number_same m.object.0, number_same m.level) (mutexes_same ms)

under : (b : Bool) (x : TakenMutex) (ms : List TakenMutex) → option_map (λ rest. x ∷ rest) (if b then Some ms else None) ≡ (if b then Some (x ∷ ms) else None)
under true x ms = refl
under false x ms = refl

-- the last is released where it has the number
pub without_end : (k : ℕ) (ms : List TakenMutex) (m : TakenMutex) → without_last k (ms ++ m ∷ []) ≡ (if m.object.0 == k then Some ms else None)
without_end k [] m = refl
without_end k (x ∷ []) m = ap (option_map (λ rest. x ∷ rest)) (without_end k [] m) ∙ under (m.object.0 == k) x []
without_end k (x ∷ y ∷ ms) m = ap (option_map (λ rest. x ∷ rest)) (without_end k (y ∷ ms) m) ∙ under (m.object.0 == k) x (y ∷ ms)

-- the greatest level behind one more
pub greatest_end : (level : ℕ) (ms : List TakenMutex) (m : TakenMutex) → greatest_level level (ms ++ m ∷ []) ≡ max (greatest_level level ms) m.level
greatest_end level [] m = refl
greatest_end level (x ∷ ms) m = greatest_end (max level x.level) ms m

-- what tests of two numbers tell
pub same_number : (a b : ℕ) → a ≡ b → (a == b) ≡ true
same_number a b e = elim (eqb_tells a b) [ inl p ↦ p.0 | inr p ↦ absurd (p.1 e) ]

pub other_number : (a b : ℕ) → (a ≡ b → ⊥) → (a == b) ≡ false
other_number a b e = elim (eqb_tells a b) [ inl p ↦ absurd (e p.1) | inr p ↦ p.0 ]
