-- Roots behind a place are cut off, and methods are closed, one after the other.
use Rattle.std.proofs.Common.{◌≡◌, ◌≢◌, ◌<◌, ◌≤◌, ◌+◌, ◌-◌, ℕ, zero, suc, List, [], ◌∷◌, ◌++◌, length, take, drop, get_or, refl, sym, ap, ◌∙◌, subst, arith, inl, inr, Some, None, Option, length-append}
use Rattle.std.proofs.Math.ListN.{set}
use Rattle.std.proofs.lemmas.Bool.Decides.{leb_tells}
use Rattle.std.proofs.lemmas.List.{append-nil, length-map, length-set}
use Rattle.std.proofs.lemmas.Option.{slice_get-map}
use Rattle.std.specs.Option.{option_map, option_to_list}
use Rattle.std.specs.Prelude.{Bool, true, false, ◌&&◌, ◌||◌, nat_le, ◌==◌, slice_get, unwrap_or, if◌then◌else◌}
use Rattle.aml_paths.specs.declared.scope.ObjectId.{ObjectId}
use Rattle.aml_calls.specs.Chains.{is_among}
use Rattle.aml_calls.specs.Pairs.{numbers}
use Rattle.aml_calls.proofs.Among.{among_append, among_cases, among_front, among_last, first_among, is_false, or_left, rest_among, same_number}
use Rattle.aml_calls.proofs.GoingOn.{numbers_take}
use Rattle.aml_calls.proofs.Searching.{same_or_other}
use Rattle.aml_components.specs.declared.search.Call.{Call}
use Rattle.aml_components.specs.declared.search.Mark.{Mark}
use Rattle.aml_components.specs.declared.search.Mark.TheVariants.{Closed}
use Rattle.aml_components.specs.Search.{AreClosed, callers, IsCut, IsRising, mark_at}
use Rattle.aml_components.proofs.Marking.{mark_other, mark_same, no_more_new}
use Rattle.aml_components.proofs.Rising.{either_part, split}

-- what is known on the way
pub record CutTo (old : List ℕ) (place : ℕ) (now : List ℕ) : Type 0 where
  pub rising : IsRising now
  pub had : (r : ℕ) → is_among r now ≡ true → is_among r old ≡ true
  pub has : (r : ℕ) → is_among r old ≡ true → r ≤ place → is_among r now ≡ true
  pub shorter : length now ≤ length old

-- the last number, or 0 of none
pub last_is : (xs : List ℕ) (x : ℕ) →
    unwrap_or (slice_get (xs ++ x ∷ []) (length (xs ++ x ∷ []) - 1)) 0 ≡ x
last_is xs x = ap (λ n. unwrap_or (slice_get (xs ++ x ∷ []) n) 0) (sym (one xs)) ∙ at xs
  where
    one : (ks : List ℕ) → length ks ≡ length (ks ++ x ∷ []) - 1
    one ks = let long = length-append ks (x ∷ []) in omega (arith, long)

    at : (ks : List ℕ) → unwrap_or (slice_get (ks ++ x ∷ []) (length ks)) 0 ≡ x
    at [] = refl
    at (k ∷ ks) = at ks

-- one more behind the place is cut off
pub cut_more : (old : List ℕ) (place : ℕ) (xs : List ℕ) (x : ℕ) → place < x →
    CutTo old place (xs ++ x ∷ []) → CutTo old place xs
cut_more old place xs x lt h = record {
  rising = (split xs (x ∷ []) h.rising).first;
  had = λ r e. h.had r (among_front r xs (x ∷ []) e);
  has = λ r e le. either_part (is_among r xs ≡ true) r xs (x ∷ []) (h.has r e le) (λ f. f)
      (λ f. among_cases (is_among r xs ≡ true) r x [] f
      (λ same. absurd (omega (arith, same, lt, le))) (λ g. absurd cc));
  shorter = let le = h.shorter in let long = length-append xs (x ∷ []) in omega (arith, le, long);
}

-- the last is taken away, if there is one, where it is behind the place
pub cut_pop : (old : List ℕ) (place : ℕ) (now new : List ℕ) (last : Option ℕ) →
    now ≡ new ++ option_to_list last → place < unwrap_or (slice_get now (length now - 1)) 0 →
    CutTo old place now → CutTo old place new
cut_pop old place now new None e lt h = subst (CutTo old place) (e ∙ append-nil new) h
cut_pop old place now new (Some x) e lt h =
    cut_more old place new x
    (subst (λ n. place < n) (ap (λ (xs : List ℕ). unwrap_or (slice_get xs (length xs - 1)) 0) e
    ∙ last_is new x) lt) (subst (CutTo old place) e h)

-- none is greater than the last
last_most : (xs : List ℕ) (n y : ℕ) → suc n ≡ length xs → IsRising xs → is_among y xs ≡ true →
    y ≤ unwrap_or (slice_get xs n) 0
last_most [] n y e r among = absurd cc
last_most (x ∷ []) zero y e r among =
    among_cases (y ≤ x) y x [] among (λ same. omega (arith, same)) (λ f. absurd cc)
last_most (x ∷ []) (suc n) y e r among = absurd (omega (arith, e))
last_most (x ∷ z ∷ zs) zero y e r among = absurd (omega (arith, e))
last_most (x ∷ z ∷ zs) (suc n) y e r among =
    among_cases (y ≤ unwrap_or (slice_get (z ∷ zs) n) 0) y x (z ∷ zs) among
    (λ same. let le = r.0 z (first_among z zs) in
    let more = last_most (z ∷ zs) n z (omega (arith, e)) r.1 (first_among z zs) in
    omega (arith, same, le, more))
    (λ f. last_most (z ∷ zs) n y (omega (arith, e)) r.1 f)

pub most_last : (xs : List ℕ) (y : ℕ) → IsRising xs → is_among y xs ≡ true →
    y ≤ unwrap_or (slice_get xs (length xs - 1)) 0
most_last xs y r e = last_most xs (length xs - 1) y (some xs e) r e
  where
    some : (ks : List ℕ) → is_among y ks ≡ true → suc (length ks - 1) ≡ length ks
    some [] f = absurd cc
    some (k ∷ ks) f = omega arith

-- those that call are before a root where the last is
pub all_before : (cs : List Call) (call : Call) (root : ℕ) →
    slice_get cs (length cs - 1) ≡ Some call → call.from < root → (p : ℕ) → IsRising (callers cs) →
    is_among p (callers cs) ≡ true → p < root
all_before cs call root e lt p r among =
    let le = most_last (callers cs) p r among in
    let at : unwrap_or (slice_get (callers cs) (length (callers cs) - 1)) 0 ≡ call.from =
    ap (λ n. unwrap_or (slice_get (callers cs) (n - 1)) 0) (length-map cs (λ (c : Call). c.from))
    ∙ ap (λ o. unwrap_or o 0) (slice_get-map (λ (c : Call). c.from) cs (length cs - 1)
    ∙ ap (option_map (λ (c : Call). c.from)) e) in
    omega (arith, le, at, lt)

pub cut_done : (old : List ℕ) (place : ℕ) (now : List ℕ) →
    ((r : ℕ) → is_among r now ≡ true → r ≤ place) → CutTo old place now → IsCut old place now
cut_done old place now low h = record {
  rising = h.rising;
  are = λ r. by r (is_among r now) refl;
  shorter = h.shorter;
}
  where
    below : (r : ℕ) → r ≤ place → nat_le r place ≡ true
    below r le =
        elim (leb_tells r place) [
          | inl e ↦ e.0
          | inr e ↦ absurd (let lt = e.1 in omega (arith, lt, le))
        ]

    not_below : (r : ℕ) → (r ≤ place → ⊥) → nat_le r place ≡ false
    not_below r out = elim (leb_tells r place) [ inl e ↦ absurd (out e.1) | inr e ↦ e.0 ]

    two : (a b : Bool) → a ≡ true → b ≡ true → (a && b) ≡ true
    two true b f g = g
    two false b f g = absurd cc

    one_not : (a b : Bool) → (a ≡ true → b ≡ false) → (a && b) ≡ false
    one_not true b f = f refl
    one_not false b f = refl

    by : (r : ℕ) (b : Bool) → is_among r now ≡ b →
        is_among r now ≡ (is_among r old && nat_le r place)
    by r true e = e ∙ sym (two (is_among r old) (nat_le r place) (h.had r e) (below r (low r e)))
    by r false e =
        e ∙ sym (one_not (is_among r old) (nat_le r place)
        (λ f. not_below r (λ le. absurd (let clash : true ≡ false = sym (h.has r f le) ∙ e in cc))))

pub cut_all : (old : List ℕ) (place : ℕ) (now : List ℕ) →
    unwrap_or (slice_get now (length now - 1)) 0 ≤ place → CutTo old place now → IsCut old place now
cut_all old place now le h =
    cut_done old place now (λ r e. let most = most_last now r h.rising e in
    omega (arith, le, most)) h

-- methods are closed, one after the other
pub closed_more : (row : List ObjectId) (i : ℕ) (d : ObjectId) (number : ℕ) (old now : List Mark) →
    i < length row → (get_or row i d).0 < length old →
    AreClosed (numbers (take i row)) number old now →
    AreClosed (numbers (take (i + 1) row)) number old (set now (get_or row i d).0 (Closed number))
closed_more row i d number old now lt below h =
    subst (λ ks. AreClosed ks number old (set now m (Closed number)))
    (sym (numbers_take row i d lt)) (record {
      sized = length-set now m (Closed number) ∙ h.sized;
      are = λ k.
          same_or_other
          (mark_at (set now m (Closed number)) k ≡
          (if is_among k (numbers (take i row) ++ m ∷ []) then Closed number else mark_at old k)) k
          m
          (λ same. subst
          (λ j. mark_at (set now m (Closed number)) j ≡
          (if is_among j (numbers (take i row) ++ m ∷ []) then Closed number else mark_at old
          j)) (sym same)
          (mark_same now m (Closed number) inside
          ∙ sym (taken (is_among m (numbers (take i row) ++ m ∷ []))
          (among_last m (numbers (take i row))))))
          (λ other. mark_other now m k (Closed number) other ∙ h.are k
          ∙ ap (λ b. if b then Closed number else mark_at old k)
          (sym (not_last k other (numbers (take i row)))));
      fewer = let one = no_more_new now m (Closed number) inside refl in
          let le = h.fewer in omega (arith, one, le);
    })
  where
    m : ℕ
    m = (get_or row i d).0

    inside : m < length now
    inside = let same = h.sized in omega (arith, same, below)

    taken : (b : Bool) → b ≡ true → (if b then Closed number else mark_at old m) ≡ Closed number
    taken true e = refl
    taken false e = absurd cc

    not_last : (k : ℕ) → k ≢ m → (ks : List ℕ) → is_among k (ks ++ m ∷ []) ≡ is_among k ks
    not_last k other ks =
        among_append k ks (m ∷ [])
        ∙ by (is_among k ks) (is_among k (m ∷ []))
        (is_false (is_among k (m ∷ [])) (λ f. among_cases ⊥ k m [] f other (λ g. absurd cc)))
      where
        by : (p q : Bool) → q ≡ false → (p || q) ≡ p
        by true q e = refl
        by false q e = e

-- methods behind a place have marks where all have
pub rest_inside : (ids now : List ObjectId) (root room : ℕ) → now ≡ ids →
    ((k : ℕ) → is_among k (numbers ids) ≡ true → k < room) → (k : ℕ) →
    is_among k (numbers (take (length now - root) (drop root now))) ≡ true → k < room
rest_inside ids now root room e h k f =
    h k (subst (λ (xs : List ObjectId). is_among k (numbers xs) ≡ true) e
    (back root now (front (length now - root) (drop root now) f)))
  where
    front : (n : ℕ) (xs : List ObjectId) → is_among k (numbers (take n xs)) ≡ true →
        is_among k (numbers xs) ≡ true
    front zero xs g = absurd cc
    front (suc n) [] g = absurd cc
    front (suc n) (x ∷ xs) g =
        among_cases (is_among k (x.0 ∷ numbers xs) ≡ true) k x.0 (numbers (take n xs)) g
        (λ same. or_left (k == x.0) (is_among k (numbers xs)) (ap (λ i. k == i) (sym same)
        ∙ same_number k))
        (λ i. rest_among k x.0 (numbers xs) (front n xs i))

    back : (n : ℕ) (xs : List ObjectId) → is_among k (numbers (drop n xs)) ≡ true →
        is_among k (numbers xs) ≡ true
    back zero xs g = g
    back (suc n) [] g = absurd cc
    back (suc n) (x ∷ xs) g = rest_among k x.0 (numbers xs) (back n xs g)
