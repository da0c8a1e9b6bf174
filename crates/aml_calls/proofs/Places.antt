-- Where the pairs of methods stand, and how much room their numbers want.
use Rattle.std.proofs.Common.{◌≡◌, ◌≢◌, ◌<◌, ◌≤◌, ◌+◌, ℕ, zero, suc, List, [], ◌∷◌, ◌++◌, length, take, drop, get_or, Some, refl, sym, ap, ◌∙◌, subst, arith, inl, inr, drop-cons, add-one, append_assoc}
use Rattle.std.proofs.Math.ListN.{drop_of_length-le, replicate, set}
use Rattle.std.proofs.lemmas.Bool.Decides.{eqb_tells, leb_tells}
use Rattle.std.proofs.lemmas.List.{get_or-replicate, length-replicate, get_or-set_other, get_or-set_same, length-set, take_more}
use Rattle.std.proofs.lemmas.Option.{slice_get-get_or, slice_get_past}
use Rattle.std.specs.Prelude.{slice_get, Bool, true, false, ◌==◌, ◌||◌, if◌then◌else◌}
use Rattle.aml_calls.specs.Chains.{is_among}
use Rattle.aml_calls.specs.Pairs.{callees, callees_at, calls_in, named, named_by, numbers, Pair}
use Rattle.aml_calls.proofs.Among.{among_append, among_back, among_cases, among_front, rest_among}

-- an element behind a change
pub get_set_same : {X : Type 0} (xs : List X) (i : ℕ) (y : X) → i < length xs → slice_get (set xs i y) i ≡ Some y
get_set_same xs i y lt = slice_get-get_or (set xs i y) i y (let e = length-set xs i y in omega (arith, e, lt)) ∙ ap Some (get_or-set_same xs i y y lt)

pub get_set_other : {X : Type 0} (xs : List X) (i j : ℕ) (y : X) → j ≢ i → slice_get (set xs i y) j ≡ slice_get xs j
get_set_other xs i j y other = elim (leb_tells (length xs) j) [
  | inl e ↦ slice_get_past (set xs i y) j (let l = length-set xs i y in let le = e.1 in omega (arith, l, le)) ∙ sym (slice_get_past xs j e.1)
  | inr e ↦ slice_get-get_or (set xs i y) j y (let l = length-set xs i y in let lt = e.1 in omega (arith, l, lt)) ∙ ap Some (get_or-set_other xs i j y y other) ∙ sym (slice_get-get_or xs j y e.1)
]

-- one more pair
named_append : (ps qs : List Pair) → named (ps ++ qs) ≡ named ps ++ named qs
named_append [] qs = refl
named_append (p ∷ ps) qs = ap (λ ks. named_by p ++ ks) (named_append ps qs) ∙ sym (append_assoc (named_by p) (named ps) (named qs))

pub named_more : (ps : List Pair) (i : ℕ) (p : Pair) → i < length ps → p ≡ get_or ps i p → named (take (i + 1) ps) ≡ named (take i ps) ++ named_by p
named_more ps i p lt is =
    ap named (take_more ps i p lt ∙ ap (λ x. take i ps ++ x ∷ []) (sym is)) ∙ named_append (take i ps) (p ∷ []) ∙ ap (λ ks. named (take i ps) ++ ks) (append_none (named_by p))
  where
    append_none : (ks : List ℕ) → ks ++ [] ≡ ks
    append_none [] = refl
    append_none (k ∷ ks) = ap (λ js. k ∷ js) (append_none ks)

-- what a pair names is named
pub among_named : (ps : List Pair) (i : ℕ) (p : Pair) → i < length ps → p ≡ get_or ps i p → (k : ℕ) → is_among k (named_by p) ≡ true → is_among k (named ps) ≡ true
among_named ps i p lt is k e = at ps i p lt (subst (λ (q : Pair). is_among k (named_by q) ≡ true) is e)
  where
    at : (ps : List Pair) (i : ℕ) (d : Pair) → i < length ps → is_among k (named_by (get_or ps i d)) ≡ true → is_among k (named ps) ≡ true
    at [] i d lt f = absurd (omega arith)
    at (q ∷ qs) zero d lt f = among_front k (named_by q) (named qs) f
    at (q ∷ qs) (suc i) d lt f = among_back k (named_by q) (named qs) (at qs i d (omega arith) f)

-- there is room for some numbers, and no less than before
pub record HasRoom (before room : ℕ) (ms : List ℕ) : Type 0 where
  pub grown : before ≤ room
  pub has : (k : ℕ) → is_among k ms ≡ true → k < room

-- room for more numbers
pub room_more : (ms ns : List ℕ) (room more : ℕ) → ((k : ℕ) → is_among k ms ≡ true → k < room) → room ≤ more → ((k : ℕ) → is_among k ns ≡ true → k < more) → (k : ℕ) → is_among k (ms ++ ns) ≡ true → k < more
room_more ms ns room more h le g k e = by (is_among k ms) refl (sym (among_append k ms ns) ∙ e)
  where
    by : (b : Bool) → is_among k ms ≡ b → (b || is_among k ns) ≡ true → k < more
    by true f _ = let below = h k f in omega (arith, below, le)
    by false f i = g k i

pub room_one : (n more : ℕ) → n < more → (k : ℕ) → is_among k (n ∷ []) ≡ true → k < more
room_one n more lt k e = among_cases (k < more) k n [] e (λ same. omega (arith, same, lt)) (λ f. absurd cc)

-- with no place of a pair, no callees
pub no_places : (ps : List Pair) (room : ℕ) (k : ℕ) → callees_at ps (slice_get (replicate room (length ps)) k) ≡ []
no_places ps room k = elim (leb_tells room k) [
  | inl e ↦ ap (callees_at ps) (slice_get_past (replicate room (length ps)) k (let l = length-replicate room (length ps) in let le = e.1 in omega (arith, l, le)))
  | inr e ↦ ap (callees_at ps) (slice_get-get_or (replicate room (length ps)) k 0 (let l = length-replicate room (length ps) in let lt = e.1 in omega (arith, l, lt)) ∙ ap Some (get_or-replicate room k (length ps) 0 e.1)) ∙ ap callees (slice_get_past ps (length ps) (omega arith))
]

pub none_left : (ps : List Pair) (k : ℕ) → calls_in (drop (length ps) ps) k ≡ []
none_left ps k = ap (λ (qs : List Pair). calls_in qs k) (drop_of_length-le ps (omega arith))

-- a pair's place, kept before those of the pairs behind it
pub place_kept : (ps : List Pair) (places : List ℕ) (i : ℕ) (p : Pair) → i < length ps → p ≡ get_or ps i p → p.0.0 < length places → ((k : ℕ) → callees_at ps (slice_get places k) ≡ calls_in (drop (i + 1) ps) k) → (k : ℕ) → callees_at ps (slice_get (set places p.0.0 i) k) ≡ calls_in (drop i ps) k
place_kept ps places i p lt is room h k = elim (eqb_tells p.0.0 k) [
  | inl e ↦ at_it e.0 e.1
  | inr e ↦ ap (callees_at ps) (get_set_other places p.0.0 k i (λ same. e.1 (sym same))) ∙ h k ∙ sym (ap (λ (qs : List Pair). calls_in qs k) first ∙ skips e.0)
]
  where
    first : drop i ps ≡ p ∷ drop (i + 1) ps
    first = drop-cons ps i p lt ∙ ap (λ (x : Pair). x ∷ drop (suc i) ps) (sym is) ∙ ap (λ n. p ∷ drop n ps) (sym (add-one i))

    takes : (b : Bool) (x y : List ℕ) → b ≡ true → (if b then x else y) ≡ x
    takes true x y e = refl
    takes false x y e = absurd cc

    leaves : (b : Bool) (x y : List ℕ) → b ≡ false → (if b then x else y) ≡ y
    leaves true x y e = absurd cc
    leaves false x y e = refl

    skips : (p.0.0 == k) ≡ false → calls_in (p ∷ drop (i + 1) ps) k ≡ calls_in (drop (i + 1) ps) k
    skips e = leaves (p.0.0 == k) (numbers p.1.items) (calls_in (drop (i + 1) ps) k) e

    at_it : (p.0.0 == k) ≡ true → p.0.0 ≡ k → callees_at ps (slice_get (set places p.0.0 i) k) ≡ calls_in (drop i ps) k
    at_it e same =
        ap (callees_at ps) (ap (slice_get (set places p.0.0 i)) (sym same) ∙ get_set_same places p.0.0 i room)
        ∙ ap callees (slice_get-get_or ps i p lt ∙ ap Some (sym is))
        ∙ sym (ap (λ (qs : List Pair). calls_in qs k) first ∙ takes (p.0.0 == k) (numbers p.1.items) (calls_in (drop (i + 1) ps) k) e)

-- what is called is named
pub callee_named : (ps : List Pair) (k j : ℕ) → is_among j (calls_in ps k) ≡ true → is_among j (named ps) ≡ true
callee_named [] k j e = absurd cc
callee_named (p ∷ ps) k j e = by (p.0.0 == k) e (λ f. callee_named ps k j f)
  where
    by : (b : Bool) → is_among j (if b then numbers p.1.items else calls_in ps k) ≡ true → (is_among j (calls_in ps k) ≡ true → is_among j (named ps) ≡ true) → is_among j (named_by p ++ named ps) ≡ true
    by true g rest = among_front j (named_by p) (named ps) (rest_among j p.0.0 (numbers p.1.items) g)
    by false g rest = among_back j (named_by p) (named ps) (rest g)
