-- Calls that wait.
use Rattle.std.proofs.Common.{◌≡◌, ◌≤◌, ℕ, List, [], ◌∷◌, ◌++◌, sym, ◌∙◌, subst, arith}
use Rattle.std.proofs.lemmas.Bool.{and_parts, eqb-true}
use Rattle.std.proofs.lemmas.List.{map-append}
use Rattle.std.proofs.lemmas.List.Folds.{list_any-append}
use Rattle.std.specs.Prelude.{Bool, true, ◌==◌, ◌&&◌, ◌||◌}
use Rattle.aml_paths.specs.declared.scope.ObjectId.{ObjectId}
use Rattle.aml_calls.specs.Chains.{is_among}
use Rattle.aml_calls.specs.Pairs.{numbers}
use Rattle.aml_calls.proofs.Among.{among_cases, both, first_among, or_left, or_right, rest_among, same_number}
use Rattle.aml_components.specs.declared.search.Call.{Call}
use Rattle.aml_components.specs.Search.{callers, calls_from, IsRising, waits}
use Rattle.aml_components.proofs.Rising.{either, join, split}

abbrev pub is_call : Call → ℕ → ℕ → Bool
is_call c p j = (c.from == p) && (c.to.0 == j)

pub waits_append : (us vs : List Call) (p j : ℕ) →
    waits (us ++ vs) p j ≡ (waits us p j || waits vs p j)
waits_append us vs p j = list_any-append (λ c. is_call c p j) us vs

pub waits_front : (us vs : List Call) (p j : ℕ) → waits us p j ≡ true → waits (us ++ vs) p j ≡ true
waits_front us vs p j e = waits_append us vs p j ∙ or_left (waits us p j) (waits vs p j) e

pub waits_back : (us vs : List Call) (p j : ℕ) → waits vs p j ≡ true → waits (us ++ vs) p j ≡ true
waits_back us vs p j e = waits_append us vs p j ∙ or_right (waits us p j) (waits vs p j) e

pub waits_itself : (c : Call) (cs : List Call) → waits (c ∷ cs) c.from c.to.0 ≡ true
waits_itself c cs =
    or_left (is_call c c.from c.to.0) (waits cs c.from c.to.0)
    (both (c.from == c.from) (c.to.0 == c.to.0) (same_number c.from) (same_number c.to.0))

-- one of two lists has it
pub waits_cases : (P : Type 0) (us vs : List Call) (p j : ℕ) → waits (us ++ vs) p j ≡ true →
    (waits us p j ≡ true → P) → (waits vs p j ≡ true → P) → P
waits_cases P us vs p j e =
    either P (waits us p j) (waits vs p j) (sym (waits_append us vs p j) ∙ e)

-- it is the first, or one behind that
pub first_cases : (P : Type 0) (c : Call) (cs : List Call) (p j : ℕ) → waits (c ∷ cs) p j ≡ true →
    (c.from ≡ p → c.to.0 ≡ j → P) → (waits cs p j ≡ true → P) → P
first_cases P c cs p j e first rest = either P (is_call c p j) (waits cs p j) e
    (λ f. let two = and_parts (c.from == p) (c.to.0 == j) f in
    first (eqb-true c.from p two.0) (eqb-true c.to.0 j two.1))
    rest

-- without one, each other waits still
pub waits_without : (P : Type 0) (us vs : List Call) (c : Call) (p j : ℕ) →
    waits (us ++ c ∷ vs) p j ≡ true → (c.from ≡ p → c.to.0 ≡ j → P) →
    (waits (us ++ vs) p j ≡ true → P) → P
waits_without P us vs c p j e this other = waits_cases P us (c ∷ vs) p j e
    (λ f. other (waits_front us vs p j f))
    (λ f. first_cases P c vs p j f this (λ g. other (waits_back us vs p j g)))

pub waits_with : (us vs : List Call) (c : Call) (p j : ℕ) → waits (us ++ vs) p j ≡ true →
    waits (us ++ c ∷ vs) p j ≡ true
waits_with us vs c p j e = waits_cases (waits (us ++ c ∷ vs) p j ≡ true) us vs p j e
    (λ f. waits_front us (c ∷ vs) p j f)
    (λ f. waits_back us (c ∷ vs) p j (or_right (is_call c p j) (waits vs p j) f))

-- all calls of a method at a place
pub waits_from : (place : ℕ) (row : List ObjectId) (j : ℕ) → is_among j (numbers row) ≡ true →
    waits (calls_from place row) place j ≡ true
waits_from place [] j e = absurd cc
waits_from place (x ∷ xs) j e =
    among_cases (waits (calls_from place (x ∷ xs)) place j ≡ true) j x.0 (numbers xs) e
    (λ same. subst (λ n. waits (calls_from place (x ∷ xs)) place n ≡ true) (sym same)
    (waits_itself (record { from = place; to = x }) (calls_from place xs)))
    (λ f. or_right (is_call (record { from = place; to = x }) place j)
    (waits (calls_from place xs) place j) (waits_from place xs j f))

pub from_waits : (place : ℕ) (row : List ObjectId) (p j : ℕ) →
    waits (calls_from place row) p j ≡ true → (place ≡ p) × (is_among j (numbers row) ≡ true)
from_waits place [] p j e = absurd cc
from_waits place (x ∷ xs) p j e =
    first_cases ((place ≡ p) × (is_among j (x.0 ∷ numbers xs) ≡ true)) (record {
      from = place;
      to = x;
    }) (calls_from place xs) p j e
    (λ f g. (f, subst (λ n. is_among n (x.0 ∷ numbers xs) ≡ true) g (first_among x.0 (numbers xs))))
    (λ f. let h = from_waits place xs p j f in (h.0, rest_among j x.0 (numbers xs) h.1))

-- the places that call
pub caller_of : (cs : List Call) (p j : ℕ) → waits cs p j ≡ true → is_among p (callers cs) ≡ true
caller_of [] p j e = absurd cc
caller_of (c ∷ cs) p j e = first_cases (is_among p (c.from ∷ callers cs) ≡ true) c cs p j e
    (λ f g. subst (λ n. is_among n (c.from ∷ callers cs) ≡ true) f
    (first_among c.from (callers cs)))
    (λ f. rest_among p c.from (callers cs) (caller_of cs p j f))

pub called_by : (cs : List Call) (p : ℕ) → is_among p (callers cs) ≡ true →
    (j : ℕ) × (waits cs p j ≡ true)
called_by [] p e = absurd cc
called_by (c ∷ cs) p e = among_cases ((j : ℕ) × (waits (c ∷ cs) p j ≡ true)) p c.from (callers cs) e
    (λ same. (c.to.0, subst (λ n. waits (c ∷ cs) n c.to.0 ≡ true) (sym same) (waits_itself c cs)))
    (λ f. let h = called_by cs p f in (h.0, or_right (is_call c p h.0) (waits cs p h.0) h.1))

pub callers_append : (us vs : List Call) → callers (us ++ vs) ≡ callers us ++ callers vs
callers_append us vs = map-append (λ (c : Call). c.from) us vs

pub from_one : (place : ℕ) (row : List ObjectId) (y : ℕ) →
    is_among y (callers (calls_from place row)) ≡ true → y ≡ place
from_one place [] y e = absurd cc
from_one place (x ∷ xs) y e =
    among_cases (y ≡ place) y place (callers (calls_from place xs)) e (λ same. same)
    (from_one place xs y)

pub from_rising : (place : ℕ) (row : List ObjectId) → IsRising (callers (calls_from place row))
from_rising place [] = tt
from_rising place (x ∷ xs) =
    ((λ y e. let same = from_one place xs y e in omega (arith, same)), from_rising place xs)

-- callers in turn, with those of one more method behind all, and without one of them
pub in_turn_more : (cs : List Call) (place : ℕ) (row : List ObjectId) → IsRising (callers cs) →
    ((p : ℕ) → is_among p (callers cs) ≡ true → p ≤ place) →
    IsRising (callers (cs ++ calls_from place row))
in_turn_more cs place row r h =
    subst IsRising (sym (callers_append cs (calls_from place row)))
    (join (callers cs) (callers (calls_from place row)) (record {
      first = r;
      second = from_rising place row;
      between = λ a b e f. let le = h a e in let same = from_one place row b f in
          omega (arith, le, same);
    }))

pub in_turn_without : (us vs : List Call) (c : Call) → IsRising (callers (us ++ c ∷ vs)) →
    IsRising (callers (us ++ vs))
in_turn_without us vs c r =
    let h = split (callers us) (callers (c ∷ vs)) (subst IsRising (callers_append us (c ∷ vs)) r) in
    subst IsRising (sym (callers_append us vs)) (join (callers us) (callers vs) (record {
      first = h.first;
      second = h.second.1;
      between = λ a b e f. h.between a b e (rest_among b c.from (callers vs) f);
    }))
