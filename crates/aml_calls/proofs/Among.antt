-- Which numbers stand in a list, and what holds of each of them.
use Rattle.std.proofs.Common.{◌≡◌, ◌≢◌, ◌≤◌, ℕ, suc, List, [], ◌∷◌, ◌++◌, length, refl, sym, ◌∙◌, subst, arith}
use Rattle.std.proofs.lemmas.Bool.{and_parts, or_parts, eqb-true}
use Rattle.std.proofs.lemmas.Bool.Decides.{nat_tests}
use Rattle.std.specs.Cmp.{nat_eq_equiv}
use Rattle.std.specs.List.{list_all}
use Rattle.std.specs.Prelude.{Bool, true, false, ◌==◌, ◌&&◌, ◌||◌, if◌then◌else◌}
use Rattle.aml_calls.specs.Chains.{has_cycle, is_among}

pub same_number : (n : ℕ) → (n == n) ≡ true
same_number n = grind (arith, nat_tests)

pub or_left : (p q : Bool) → p ≡ true → (p || q) ≡ true
or_left true q e = refl
or_left false q e = absurd cc

pub or_right : (p q : Bool) → q ≡ true → (p || q) ≡ true
or_right true q e = refl
or_right false q e = e

pub neither : (p q : Bool) → p ≡ false → q ≡ false → (p || q) ≡ false
neither true q e f = absurd cc
neither false q e f = f

pub both : (p q : Bool) → p ≡ true → q ≡ true → (p && q) ≡ true
both true q e f = f
both false q e f = absurd cc

pub not_both : (p : Bool) → p ≡ true → p ≡ false → ⊥
not_both true e f = absurd cc
not_both false e f = absurd cc

-- what is not true is false
pub is_false : (p : Bool) → (p ≡ true → ⊥) → p ≡ false
is_false true h = absurd (h refl)
is_false false h = refl

pub first_among : (k : ℕ) (ks : List ℕ) → is_among k (k ∷ ks) ≡ true
first_among k ks = or_left (k == k) (is_among k ks) (same_number k)

pub rest_among : (j k : ℕ) (ks : List ℕ) → is_among j ks ≡ true → is_among j (k ∷ ks) ≡ true
rest_among j k ks e = or_right (j == k) (is_among j ks) e

-- the first of a list, or one behind it
pub among_cases : (P : Type 0) (j k : ℕ) (ks : List ℕ) → is_among j (k ∷ ks) ≡ true → (j ≡ k → P) → (is_among j ks ≡ true → P) → P
among_cases P j k ks e first rest = by (j == k) refl e
  where
    by : (b : Bool) → (j == k) ≡ b → (b || is_among j ks) ≡ true → P
    by true same f = first (eqb-true j k same)
    by false other f = rest f

-- what holds of all holds of each, and back
pub among_all : (p : ℕ → Bool) (j : ℕ) (ks : List ℕ) → is_among j ks ≡ true → list_all p ks ≡ true → p j ≡ true
among_all p j [] e h = absurd cc
among_all p j (k ∷ ks) e h =
    let two = and_parts (p k) (list_all p ks) h in
    among_cases (p j ≡ true) j k ks e (λ same. subst (λ i. p i ≡ true) (sym same) two.0) (λ f. among_all p j ks f two.1)

pub all_among : (p : ℕ → Bool) (ks : List ℕ) → ((j : ℕ) → is_among j ks ≡ true → p j ≡ true) → list_all p ks ≡ true
all_among p [] h = refl
all_among p (k ∷ ks) h = both (p k) (list_all p ks) (h k (first_among k ks)) (all_among p ks (λ j e. h j (rest_among j k ks e)))

-- where not all hold, one fails
pub record Fails (p : ℕ → Bool) (ks : List ℕ) : Type 0 where
  pub one : ℕ
  pub among : is_among one ks ≡ true
  pub fails : p one ≡ false

pub one_fails : (p : ℕ → Bool) (ks : List ℕ) → list_all p ks ≡ false → Fails p ks
one_fails p [] e = absurd cc
one_fails p (k ∷ ks) e = by (p k) refl e (λ f. one_fails p ks f)
  where
    by : (b : Bool) → p k ≡ b → (b && list_all p ks) ≡ false → (list_all p ks ≡ false → Fails p ks) → Fails p (k ∷ ks)
    by false f g again = record { one = k; among = first_among k ks; fails = f }
    by true f g again = let h = again g in record { one = h.one; among = rest_among h.one k ks h.among; fails = h.fails }

-- of two lists behind one another
pub among_append : (j : ℕ) (ks js : List ℕ) → is_among j (ks ++ js) ≡ (is_among j ks || is_among j js)
among_append j [] js = refl
among_append j (k ∷ ks) js = by (j == k) (among_append j ks js)
  where
    by : (b : Bool) → is_among j (ks ++ js) ≡ (is_among j ks || is_among j js) → (b || is_among j (ks ++ js)) ≡ ((b || is_among j ks) || is_among j js)
    by true e = refl
    by false e = e

pub among_front : (j : ℕ) (ks js : List ℕ) → is_among j ks ≡ true → is_among j (ks ++ js) ≡ true
among_front j ks js e = among_append j ks js ∙ or_left (is_among j ks) (is_among j js) e

pub among_back : (j : ℕ) (ks js : List ℕ) → is_among j js ≡ true → is_among j (ks ++ js) ≡ true
among_back j ks js e = among_append j ks js ∙ or_right (is_among j ks) (is_among j js) e

pub among_last : (k : ℕ) (ks : List ℕ) → is_among k (ks ++ k ∷ []) ≡ true
among_last k ks = among_back k ks (k ∷ []) (first_among k [])

-- one among a list with one more
pub append_cases : (P : Type 0) (j k : ℕ) (ks : List ℕ) → is_among j (ks ++ k ∷ []) ≡ true → (is_among j ks ≡ true → P) → (j ≡ k → P) → P
append_cases P j k ks e front last = by (is_among j ks) refl (sym (among_append j ks (k ∷ [])) ∙ e)
  where
    by : (b : Bool) → is_among j ks ≡ b → (b || is_among j (k ∷ [])) ≡ true → P
    by true f g = front f
    by false f g = among_cases P j k [] g last (λ none. absurd cc)

-- a list in which none comes twice has none twice in its first part, nor its last element there
pub twice_front : (k : ℕ) (ks : List ℕ) → has_cycle (ks ++ k ∷ []) ≡ false → (has_cycle ks ≡ false) × (is_among k ks ≡ false)
twice_front k [] e = (refl, refl)
twice_front k (j ∷ js) e =
    let two = or_parts (is_among j (js ++ k ∷ [])) (has_cycle (js ++ k ∷ [])) e in
    let rest = twice_front k js two.1 in
    let apart = or_parts (is_among j js) (is_among j (k ∷ [])) (sym (among_append j js (k ∷ [])) ∙ two.0) in
    (neither (is_among j js) (has_cycle js) apart.0 rest.0, neither (k == j) (is_among k js) (other j k (or_parts (j == k) false apart.1).0) rest.1)
  where
    other : (a b : ℕ) → (a == b) ≡ false → (b == a) ≡ false
    other a b h = nat_eq_equiv.symm b a ∙ h

pub twice_push : (k : ℕ) (ks : List ℕ) → has_cycle ks ≡ false → is_among k ks ≡ false → has_cycle (ks ++ k ∷ []) ≡ false
twice_push k [] e f = refl
twice_push k (j ∷ js) e f =
    let two = or_parts (is_among j js) (has_cycle js) e in
    let out = or_parts (k == j) (is_among k js) f in
    neither (is_among j (js ++ k ∷ [])) (has_cycle (js ++ k ∷ [])) (among_append j js (k ∷ []) ∙ neither (is_among j js) (is_among j (k ∷ [])) two.0 (neither (j == k) false (other k j out.0) refl)) (twice_push k js two.1 out.1)
  where
    other : (a b : ℕ) → (a == b) ≡ false → (b == a) ≡ false
    other a b h = nat_eq_equiv.symm b a ∙ h

-- a list without a number
without : ℕ → List ℕ → List ℕ
without k [] = []
without k (j ∷ js) = if k == j then without k js else j ∷ without k js

without_less : (k : ℕ) (us : List ℕ) → length (without k us) ≤ length us
unfolding without
without_less k [] = omega arith
without_less k (j ∷ js) = by (k == j) (without_less k js)
  where
    by : (b : Bool) → length (without k js) ≤ length js → length (if b then without k js else j ∷ without k js) ≤ suc (length js)
    by true le = omega (arith, le)
    by false le = omega (arith, le)

without_fewer : (k : ℕ) (us : List ℕ) → is_among k us ≡ true → suc (length (without k us)) ≤ length us
unfolding without
without_fewer k [] e = absurd cc
without_fewer k (j ∷ js) e = by (k == j) e (without_less k js) (λ f. without_fewer k js f)
  where
    by : (b : Bool) → (b || is_among k js) ≡ true → length (without k js) ≤ length js → (is_among k js ≡ true → suc (length (without k js)) ≤ length js) → suc (length (if b then without k js else j ∷ without k js)) ≤ suc (length js)
    by true f le again = omega (arith, le)
    by false f le again = let lt = again f in omega (arith, lt)

among_without : (k j : ℕ) (us : List ℕ) → is_among j us ≡ true → j ≢ k → is_among j (without k us) ≡ true
unfolding without
among_without k j [] e other = absurd cc
among_without k j (i ∷ is) e other = by (k == i) refl (λ f. among_without k j is f other)
  where
    by : (b : Bool) → (k == i) ≡ b → (is_among j is ≡ true → is_among j (without k is) ≡ true) → is_among j (if b then without k is else i ∷ without k is) ≡ true
    by true same rest = among_cases (is_among j (without k is) ≡ true) j i is e (λ f. absurd (other (f ∙ sym (eqb-true k i same)))) rest
    by false apart rest = among_cases (is_among j (i ∷ without k is) ≡ true) j i is e (λ f. subst (λ n. is_among n (i ∷ without k is) ≡ true) (sym f) (first_among i (without k is))) (λ f. rest_among j i (without k is) (rest f))

-- numbers of a list, none of them twice, are no more than the list has
pub no_more : (ks us : List ℕ) → has_cycle ks ≡ false → ((k : ℕ) → is_among k ks ≡ true → is_among k us ≡ true) → length ks ≤ length us
no_more [] us e h = omega arith
no_more (k ∷ ks) us e h =
    let two = or_parts (is_among k ks) (has_cycle ks) e in
    let fewer = without_fewer k us (h k (first_among k ks)) in
    let le = no_more ks (without k us) two.1 (λ j f. among_without k j us (h j (rest_among j k ks f)) (λ same. not_both (is_among k ks) (subst (λ n. is_among n ks ≡ true) same f) two.0)) in
    omega (arith, fewer, le)
