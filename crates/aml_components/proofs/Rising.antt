-- Numbers of which none is less than one before it, and where numbers stand in lists.
use Rattle.std.proofs.Common.{◌≡◌, ◌<◌, ◌≤◌, ℕ, zero, suc, List, [], ◌∷◌, ◌++◌, length, take, drop, refl, sym, ap, ◌∙◌, arith, Some}
use Rattle.std.specs.Prelude.{Bool, true, false, ◌||◌, slice_get}
use Rattle.aml_calls.specs.Chains.{is_among}
use Rattle.aml_calls.proofs.Among.{among_append, among_back, among_cases, among_front, first_among, rest_among}
use Rattle.aml_components.specs.Search.{IsRising}

pub either : (P : Type 0) (p q : Bool) → (p || q) ≡ true → (p ≡ true → P) → (q ≡ true → P) → P
either P true q e f g = f refl
either P false q e f g = g e

pub either_part : (P : Type 0) (j : ℕ) (ks js : List ℕ) → is_among j (ks ++ js) ≡ true →
    (is_among j ks ≡ true → P) → (is_among j js ≡ true → P) → P
either_part P j ks js e = either P (is_among j ks) (is_among j js) (sym (among_append j ks js) ∙ e)

-- both parts rise, and the first part's numbers are at most the second's
pub record Apart (xs ys : List ℕ) : Type 0 where
  pub first : IsRising xs
  pub second : IsRising ys
  pub between : (x y : ℕ) → is_among x xs ≡ true → is_among y ys ≡ true → x ≤ y

pub split : (xs ys : List ℕ) → IsRising (xs ++ ys) → Apart xs ys
split [] ys r = record { first = tt; second = r; between = λ x y e f. absurd cc }
split (x ∷ xs) ys r =
    let h = split xs ys r.1 in
    record {
      first = ((λ y e. r.0 y (among_front y xs ys e)), h.first);
      second = h.second;
      between = λ a b e f. among_cases (a ≤ b) a x xs e (λ same. let le =
          r.0 b (among_back b xs ys f) in omega (arith, same, le)) (λ g. h.between a b g f);
    }

pub join : (xs ys : List ℕ) → Apart xs ys → IsRising (xs ++ ys)
join [] ys h = h.second
join (x ∷ xs) ys h = (
  (λ y e. either_part (x ≤ y) y xs ys e (h.first.0 y) (λ f. h.between x y (first_among x xs) f)),
  join xs ys (record {
    first = h.first.1;
    second = h.second;
    between = λ a b e f. h.between a b (rest_among a x xs e) f;
  }),
)

-- the last is the greatest
pub at_most_last : (xs : List ℕ) (x y : ℕ) → IsRising (xs ++ x ∷ []) →
    is_among y (xs ++ x ∷ []) ≡ true → y ≤ x
at_most_last xs x y r e =
    either_part (y ≤ x) y xs (x ∷ []) e
    (λ f. (split xs (x ∷ []) r).between y x f (first_among x []))
    (λ f. among_cases (y ≤ x) y x [] f (λ same. omega (arith, same)) (λ g. absurd cc))

pub rising_push : (xs : List ℕ) (x : ℕ) → IsRising xs → ((y : ℕ) → is_among y xs ≡ true → y ≤ x) →
    IsRising (xs ++ x ∷ [])
rising_push xs x r h = join xs (x ∷ []) (record {
  first = r;
  second = ((λ y e. absurd cc), tt);
  between = λ a b e f. among_cases (a ≤ b) b x [] f (λ same.
      let le = h a e in omega (arith, same, le)) (λ g. absurd cc);
})

-- where numbers stand in a list with one more
pub at_front : (xs ys : List ℕ) (p k : ℕ) → slice_get xs p ≡ Some k →
    slice_get (xs ++ ys) p ≡ Some k
at_front [] ys p k e = absurd cc
at_front (x ∷ xs) ys zero k e = e
at_front (x ∷ xs) ys (suc p) k e = at_front xs ys p k e

pub at_end : (xs : List ℕ) (k : ℕ) → slice_get (xs ++ k ∷ []) (length xs) ≡ Some k
at_end [] k = refl
at_end (x ∷ xs) k = at_end xs k

pub at_cases : (P : Type 0) (xs : List ℕ) (j p k : ℕ) → slice_get (xs ++ j ∷ []) p ≡ Some k →
    (slice_get xs p ≡ Some k → P) → (p ≡ length xs → k ≡ j → P) → P
at_cases P [] j zero k e front last = last refl (let same : j ≡ k = cc in sym same)
at_cases P [] j (suc p) k e front last = absurd cc
at_cases P (x ∷ xs) j zero k e front last = front e
at_cases P (x ∷ xs) j (suc p) k e front last =
    at_cases P xs j p k e front (λ f g. last (ap suc f) g)

-- and in its first part, or behind that
pub at_take : (r : ℕ) (xs : List ℕ) (p k : ℕ) → slice_get (take r xs) p ≡ Some k →
    (p < r) × (slice_get xs p ≡ Some k)
at_take zero xs p k e = absurd cc
at_take (suc r) [] p k e = absurd cc
at_take (suc r) (x ∷ xs) zero k e = (omega arith, e)
at_take (suc r) (x ∷ xs) (suc p) k e = let h = at_take r xs p k e in
    let lt = h.0 in (omega (arith, lt), h.1)

pub take_at : (r : ℕ) (xs : List ℕ) (p k : ℕ) → p < r → slice_get xs p ≡ Some k →
    slice_get (take r xs) p ≡ Some k
take_at zero xs p k lt e = absurd (omega arith)
take_at (suc r) [] p k lt e = absurd cc
take_at (suc r) (x ∷ xs) zero k lt e = e
take_at (suc r) (x ∷ xs) (suc p) k lt e = take_at r xs p k (omega arith) e

pub record Stands (xs : List ℕ) (r k : ℕ) : Type 0 where
  pub place : ℕ
  pub behind : r ≤ place
  pub at : slice_get xs place ≡ Some k

pub stands_at : (xs : List ℕ) (k : ℕ) → is_among k xs ≡ true → Stands xs 0 k
stands_at [] k e = absurd cc
stands_at (x ∷ xs) k e = among_cases (Stands (x ∷ xs) 0 k) k x xs e
    (λ same. record { place = 0; behind = omega arith; at = ap Some (sym same) })
    (λ f. let h = stands_at xs k f in record {
      place = suc h.place;
      behind = omega arith;
      at = h.at;
    })

pub drop_at : (r : ℕ) (xs : List ℕ) (k : ℕ) → is_among k (drop r xs) ≡ true → Stands xs r k
drop_at zero xs k e = stands_at xs k e
drop_at (suc r) [] k e = absurd cc
drop_at (suc r) (x ∷ xs) k e = let h = drop_at r xs k e in
    let le = h.behind in record { place = suc h.place; behind = omega (arith, le); at = h.at }

pub among_there : (xs : List ℕ) (p k : ℕ) → slice_get xs p ≡ Some k → is_among k xs ≡ true
among_there [] p k e = absurd cc
among_there (x ∷ xs) zero k e = let same : x ≡ k = cc in at_first same
  where
    at_first : x ≡ k → is_among k (x ∷ xs) ≡ true
    at_first same = ap (λ n. is_among n (x ∷ xs)) (sym same) ∙ first_among x xs
among_there (x ∷ xs) (suc p) k e = rest_among k x xs (among_there xs p k e)

pub among_drop : (r : ℕ) (xs : List ℕ) (p k : ℕ) → slice_get xs p ≡ Some k → r ≤ p →
    is_among k (drop r xs) ≡ true
among_drop zero xs p k e le = among_there xs p k e
among_drop (suc r) [] p k e le = absurd cc
among_drop (suc r) (x ∷ xs) zero k e le = absurd (omega arith)
among_drop (suc r) (x ∷ xs) (suc p) k e le = among_drop r xs p k e (omega arith)
