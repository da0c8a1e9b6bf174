-- How the methods are gathered that a method reaches: what is known of them stays so.
use Rattle.std.proofs.Common.{Vec, ◌≡◌, ◌≢◌, ◌<◌, ◌≤◌, ◌+◌, ℕ, List, [], ◌∷◌, ◌++◌, length, take, get_or, refl, sym, ap, ◌∙◌, subst, arith, inl, inr, length-append}
use Rattle.std.proofs.Math.ListN.{replicate, set}
use Rattle.std.proofs.lemmas.List.{get_or-replicate, get_or-set_other, get_or-set_same, get_or_past, length-replicate, length-set}
use Rattle.std.proofs.lemmas.Bool.Decides.{leb_tells}
use Rattle.std.specs.declared.alloc.Global.{Global}
use Rattle.std.specs.Vec.{with_item}
use Rattle.aml_paths.specs.declared.scope.ObjectId.{ObjectId}
use Rattle.aml_calls.specs.declared.reach.Spread.{Spread}
use Rattle.aml_calls.specs.Pairs.{AnswersReach, calls_in, named, numbers, Pair}
use Rattle.std.proofs.lemmas.List.Sums.{sum_by-set}
use Rattle.std.proofs.lemmas.Option.{unwrap_or-slice_get}
use Rattle.std.specs.List.{count_by}
use Rattle.std.specs.Prelude.{Bool, true, false, not, ◌||◌, if◌then◌else◌}
use Rattle.aml_calls.specs.Chains.{is_among, Reaches}
use Rattle.aml_calls.specs.Spread.{is_seen, IsSpread, Looked, LooksAt, work}
use Rattle.aml_calls.proofs.Among.{among_append, among_cases, among_front, among_last, append_cases, first_among, is_false, not_both, or_left, or_right}
use Rattle.aml_calls.proofs.ChainLaws.{reached_inside, reaches_itself, reaches_more}
use Rattle.aml_calls.proofs.GoingOn.{numbers_push, numbers_take}
use Rattle.aml_calls.proofs.Searching.{same_or_other}

seen_get : (seen : List Bool) (k : ℕ) → is_seen seen k ≡ get_or seen k false
seen_get seen k = unwrap_or-slice_get seen k false

pub seen_same : (seen : List Bool) (k : ℕ) → k < length seen → is_seen (set seen k true) k ≡ true
seen_same seen k lt = seen_get (set seen k true) k ∙ get_or-set_same seen k true false lt

pub seen_other : (seen : List Bool) (k j : ℕ) → j ≢ k → is_seen (set seen k true) j ≡ is_seen seen j
seen_other seen k j other = seen_get (set seen k true) j ∙ get_or-set_other seen k j true false other ∙ sym (seen_get seen j)

-- one fewer is unseen
fewer : (b : Bool) (x y : ℕ) → b ≡ false → x + (if not b then 1 else 0) ≡ y + (if not true then 1 else 0) → x + 1 ≡ y
fewer true x y e h = absurd cc
fewer false x y e h = omega (arith, h)

unseen : (seen : List Bool) (k : ℕ) → k < length seen → is_seen seen k ≡ false → count_by not (set seen k true) + 1 ≡ count_by not seen
unseen seen k lt e = fewer (get_or seen k false) _ _ (sym (seen_get seen k) ∙ e) (sum_by-set (λ x. if not x then 1 else 0) seen k true false lt)

-- nothing looked at yet
pub looked_none : (seen : List Bool) (waiting : List ℕ) → Looked [] seen waiting seen waiting
looked_none seen waiting = record {
  sized = refl;
  sees = λ j. sym (none_or (is_seen seen j));
  waits = λ j e. or_left (is_among j waiting) false e;
  kept = λ j e. e;
  fresh = λ j e f. absurd cc;
  less = omega arith;
}
  where
    none_or : (b : Bool) → (b || false) ≡ b
    none_or true = refl
    none_or false = refl

module _ (row : List ℕ) (seen : List Bool) (waiting : List ℕ) (now : List Bool) (then' : List ℕ) (c : ℕ) (h : Looked row seen waiting now then') where
  or_again : (p q : Bool) (r : Bool) → ((p || q) || r) ≡ (p || (q || r))
  or_again true q r = refl
  or_again false q r = refl

  row_front : (j : ℕ) → (is_among j waiting || is_among j row) ≡ true → (is_among j waiting || is_among j (row ++ c ∷ [])) ≡ true
  row_front j e = by (is_among j waiting) e
    where
      by : (b : Bool) → (b || is_among j row) ≡ true → (b || is_among j (row ++ c ∷ [])) ≡ true
      by true f = refl
      by false f = among_front j row (c ∷ []) f

  -- a method that was seen already
  pub looked_seen : is_seen now c ≡ true → Looked (row ++ c ∷ []) seen waiting now then'
  looked_seen e = record {
    sized = h.sized;
    sees = λ j. same_or_other (is_seen now j ≡ (is_seen seen j || is_among j (row ++ c ∷ []))) j c
        (λ same. subst (λ i. is_seen now i ≡ (is_seen seen i || is_among i (row ++ c ∷ []))) (sym same) (e ∙ sym (or_right (is_seen seen c) (is_among c (row ++ c ∷ [])) (among_last c row))))
        (λ other. h.sees j ∙ ap (λ b. is_seen seen j || b) (sym (not_last j other)));
    waits = λ j f. row_front j (h.waits j f);
    kept = h.kept;
    fresh = λ j new f. append_cases (is_among j then' ≡ true) j c row f (λ g. h.fresh j new g) (λ same. old j new (subst (λ i. is_seen now i ≡ true) (sym same) e));
    less = h.less;
  }
    where
      not_last : (j : ℕ) → j ≢ c → is_among j (row ++ c ∷ []) ≡ is_among j row
      not_last j other = among_append j row (c ∷ []) ∙ by (is_among j row) (is_among j (c ∷ [])) (is_false (is_among j (c ∷ [])) (λ f. among_cases ⊥ j c [] f other (λ g. absurd cc)))
        where
          by : (p q : Bool) → q ≡ false → (p || q) ≡ p
          by true q e = refl
          by false q e = e

      old : (j : ℕ) → is_seen seen j ≡ false → is_seen now j ≡ true → is_among j then' ≡ true
      old j new f = h.fresh j new (second (is_seen seen j) (is_among j row) new (sym (h.sees j) ∙ f))
        where
          second : (p q : Bool) → p ≡ false → (p || q) ≡ true → q ≡ true
          second true q e f = absurd cc
          second false q e f = f

  -- one that is seen from now on, and waits
  module _ (room : c < length now) (new : is_seen now c ≡ false) where
    pub looked_new : Looked (row ++ c ∷ []) seen waiting (set now c true) (then' ++ c ∷ [])
    looked_new = record {
      sized = length-set now c true ∙ h.sized;
      sees = λ j. same_or_other (is_seen (set now c true) j ≡ (is_seen seen j || is_among j (row ++ c ∷ []))) j c
          (λ same. subst (λ i. is_seen (set now c true) i ≡ (is_seen seen i || is_among i (row ++ c ∷ []))) (sym same) (seen_same now c room ∙ sym (or_right (is_seen seen c) (is_among c (row ++ c ∷ [])) (among_last c row))))
          (λ other. seen_other now c j other ∙ h.sees j ∙ ap (λ b. is_seen seen j || b) (sym (not_last j other)));
      waits = λ j f. append_cases ((is_among j waiting || is_among j (row ++ c ∷ [])) ≡ true) j c then' f (λ g. row_front j (h.waits j g))
          (λ same. or_right (is_among j waiting) (is_among j (row ++ c ∷ [])) (subst (λ i. is_among i (row ++ c ∷ []) ≡ true) (sym same) (among_last c row)));
      kept = λ j f. among_front j then' (c ∷ []) (h.kept j f);
      fresh = λ j was f. append_cases (is_among j (then' ++ c ∷ []) ≡ true) j c row f (λ g. among_front j then' (c ∷ []) (h.fresh j was g))
          (λ same. subst (λ i. is_among i (then' ++ c ∷ []) ≡ true) (sym same) (among_last c then'));
      less =
          let one = unseen now c room new in
          let long = length-append then' (c ∷ []) in
          let le = h.less in
          omega (arith, one, long, le);
    }
      where
        not_last : (j : ℕ) → j ≢ c → is_among j (row ++ c ∷ []) ≡ is_among j row
        not_last j other = among_append j row (c ∷ []) ∙ by (is_among j row) (is_among j (c ∷ [])) (is_false (is_among j (c ∷ [])) (λ f. among_cases ⊥ j c [] f other (λ g. absurd cc)))
          where
            by : (p q : Bool) → q ≡ false → (p || q) ≡ p
            by true q e = refl
            by false q e = e

module _ (calls : ℕ → List ℕ) (all : List ℕ) (from : ℕ) where
  either : (P : Type 0) (p q : Bool) → (p || q) ≡ true → (p ≡ true → P) → (q ≡ true → P) → P
  either P true q e f g = f refl
  either P false q e f g = g e

  -- the callees of one that waited are looked at
  pub spread_on : (seen : List Bool) (waiting : List ℕ) (k : ℕ) (now : List Bool) (then' : List ℕ) → IsSpread calls all from seen (waiting ++ k ∷ []) → Looked (calls k) seen waiting now then' → IsSpread calls all from now then'
  spread_on seen waiting k now then' s h = record {
    room = λ j e. let lt = s.room j e in let same = h.sized in omega (arith, lt, same);
    begins = now_seen from s.begins;
    reached = λ j e. either (Reaches calls from j) (is_seen seen j) (is_among j (calls k)) (sym (h.sees j) ∙ e) (λ f. s.reached j f) (λ f. reaches_more calls from k j (s.reached k (s.waits k (among_last k waiting))) f);
    waits = λ j e. either (is_seen now j ≡ true) (is_among j waiting) (is_among j (calls k)) (h.waits j e)
        (λ f. now_seen j (s.waits j (among_front j waiting (k ∷ []) f)))
        (λ f. called_seen j f);
    closed = λ a b e away called. by a b e away called (is_seen seen a) refl;
  }
    where
      now_seen : (j : ℕ) → is_seen seen j ≡ true → is_seen now j ≡ true
      now_seen j e = h.sees j ∙ or_left (is_seen seen j) (is_among j (calls k)) e

      called_seen : (j : ℕ) → is_among j (calls k) ≡ true → is_seen now j ≡ true
      called_seen j e = h.sees j ∙ or_right (is_seen seen j) (is_among j (calls k)) e

      by : (a b : ℕ) → is_seen now a ≡ true → is_among a then' ≡ false → is_among b (calls a) ≡ true → (t : Bool) → is_seen seen a ≡ t → is_seen now b ≡ true
      by a b e away called true f = same_or_other (is_seen now b ≡ true) a k
          (λ same. called_seen b (subst (λ i. is_among b (calls i) ≡ true) same called))
          (λ other. now_seen b (s.closed a b f (is_false (is_among a (waiting ++ k ∷ [])) (λ g. append_cases ⊥ a k waiting g (λ i. not_both (is_among a then') (h.kept a i) away) other)) called))
      by a b e away called false f = absurd (not_both (is_among a then') (h.fresh a f (second (is_seen seen a) (is_among a (calls k)) f (sym (h.sees a) ∙ e))) away)
        where
          second : (p q : Bool) → p ≡ false → (p || q) ≡ true → q ≡ true
          second true q e f = absurd cc
          second false q e f = f

  -- in the beginning one is seen, and waits
  pub spread_first : (none : List Bool) → ((k : ℕ) → is_among k all ≡ true → k < length none) → from < length none → ((k : ℕ) → is_seen none k ≡ false) → IsSpread calls all from (set none from true) (from ∷ [])
  spread_first none room lt new = record {
    room = λ j e. let below = room j e in let same = length-set none from true in omega (arith, below, same);
    begins = seen_same none from lt;
    reached = λ j e. same_or_other (Reaches calls from j) j from (λ same. subst (λ i. Reaches calls from i) (sym same) (reaches_itself calls from)) (λ other. absurd (not_both (is_seen none j) (sym (seen_other none from j other) ∙ e) (new j)));
    waits = λ j e. among_cases (is_seen (set none from true) j ≡ true) j from [] e (λ same. subst (λ i. is_seen (set none from true) i ≡ true) (sym same) (seen_same none from lt)) (λ f. absurd cc);
    closed = λ a b e away called. absurd (same_or_other ⊥ a from
        (λ same. not_both (is_among a (from ∷ [])) (subst (λ i. is_among i (from ∷ []) ≡ true) (sym same) (first_among from [])) away)
        (λ other. not_both (is_seen none a) (sym (seen_other none from a other) ∙ e) (new a)));
  }

  -- where nothing waits any more, what is reached is seen
  pub all_seen : (seen : List Bool) → IsSpread calls all from seen [] → (to : ℕ) → Reaches calls from to → is_seen seen to ≡ true
  all_seen seen s to r = reached_inside calls (is_seen seen) (λ k j e called. s.closed k j e refl called) from to s.begins r

-- what the methods of a Spread say of it
pub look_seen : (row : List ObjectId) (i : ℕ) (d : ObjectId) (old now : Spread) → i < length row → is_seen now.seen.items (get_or row i d).0 ≡ true → LooksAt (numbers (take i row)) old now → LooksAt (numbers (take (i + 1) row)) old now
look_seen row i d old now lt e h =
    subst (λ ks. Looked ks old.seen.items (numbers old.waiting.items) now.seen.items (numbers now.waiting.items)) (sym (numbers_take row i d lt))
    (looked_seen (numbers (take i row)) old.seen.items (numbers old.waiting.items) now.seen.items (numbers now.waiting.items) (get_or row i d).0 h e)

pub look_new : (row : List ObjectId) (i : ℕ) (d : ObjectId) (old now : Spread) (waiting : Vec ObjectId Global) → i < length row → waiting.items ≡ now.waiting.items ++ get_or row i d ∷ [] → (get_or row i d).0 < length now.seen.items → is_seen now.seen.items (get_or row i d).0 ≡ false → LooksAt (numbers (take i row)) old now → LooksAt (numbers (take (i + 1) row)) old (record { seen = with_item now.seen (get_or row i d).0 true; waiting = waiting })
look_new row i d old now waiting lt e room new h =
    subst (λ ks. Looked ks old.seen.items (numbers old.waiting.items) (set now.seen.items (get_or row i d).0 true) (numbers waiting.items)) (sym (numbers_take row i d lt))
    (subst (λ ks. Looked (numbers (take i row) ++ (get_or row i d).0 ∷ []) old.seen.items (numbers old.waiting.items) (set now.seen.items (get_or row i d).0 true) ks) (sym (ap numbers e ∙ numbers_push now.waiting.items (get_or row i d)))
    (looked_new (numbers (take i row)) old.seen.items (numbers old.waiting.items) now.seen.items (numbers now.waiting.items) (get_or row i d).0 h room new))

unseen_at : (room k : ℕ) → is_seen (replicate room false) k ≡ false
unseen_at room k = seen_get (replicate room false) k ∙ elim (leb_tells room k) [
  | inl e ↦ get_or_past (replicate room false) k false (let same = length-replicate room false in let le = e.1 in omega (arith, same, le))
  | inr e ↦ get_or-replicate room k false false e.1
]

pub spread_begins : (calls : ℕ → List ℕ) (all : List ℕ) (from : ObjectId) (room : ℕ) (seen : List Bool) (waiting : List ObjectId) → seen ≡ replicate room false → waiting ≡ from ∷ [] → from.0 < room → ((k : ℕ) → is_among k all ≡ true → k < room) → IsSpread calls all from.0 (set seen from.0 true) (numbers waiting)
spread_begins calls all from room seen waiting e f lt h =
    subst (λ xs. IsSpread calls all from.0 (set xs from.0 true) (numbers waiting)) (sym e)
    (subst (λ (ids : List ObjectId). IsSpread calls all from.0 (set (replicate room false) from.0 true) (numbers ids)) (sym f)
    (spread_first calls all from.0 (replicate room false) (λ k g. let below = h k g in let same = length-replicate room false in omega (arith, below, same)) (let same = length-replicate room false in omega (arith, lt, same)) (unseen_at room)))

pub answers : (ps : List Pair) (from to : ℕ) (seen : List Bool) (b : Bool) → b ≡ is_seen seen to → IsSpread (calls_in ps) (named ps) from seen [] → AnswersReach ps from to b
answers ps from to seen true e s = s.reached to (sym e)
answers ps from to seen false e s = λ r. not_both (is_seen seen to) (all_seen (calls_in ps) (named ps) from seen s to r) (sym e)

-- one fewer waits
pub less_work : (seen now : List Bool) (old popped waiting : List ObjectId) (last : ObjectId) → old ≡ popped ++ last ∷ [] → work now (numbers waiting) ≤ work seen (numbers popped) → work now (numbers waiting) < work seen (numbers old)
less_work seen now old popped waiting last e le =
    let longer : length (numbers old) ≡ length (numbers popped) + 1 = ap (λ (ids : List ObjectId). length (numbers ids)) e ∙ ap length (numbers_push popped last) ∙ length-append (numbers popped) (last.0 ∷ []) in
    omega (arith, le, longer)
