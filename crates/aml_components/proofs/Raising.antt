-- Heights of methods, one behind the other.
use Rattle.std.proofs.Common.{◌≡◌, ◌≢◌, ◌<◌, ◌+◌, ℕ, zero, suc, List, [], ◌∷◌, ◌++◌, length, take, get_or, min, refl, sym, ap, ◌∙◌, subst, arith}
use Rattle.std.proofs.Math.ListN.{set}
use Rattle.std.proofs.lemmas.Bool.Decides.{nat_tests}
use Rattle.std.proofs.lemmas.Bool.{or_parts}
use Rattle.std.specs.Cmp.{nat_eq_equiv}
use Rattle.std.proofs.lemmas.List.{get_or-set_other, get_or-set_same, length-set}
use Rattle.std.proofs.lemmas.Option.{unwrap_or-slice_get}
use Rattle.std.specs.List.{list_all}
use Rattle.std.specs.Prelude.{Bool, true, false, ◌&&◌, ◌||◌, ◌==◌, nat_le, if◌then◌else◌}
use Rattle.aml_paths.specs.declared.scope.ObjectId.{ObjectId}
use Rattle.aml_calls.specs.Chains.{is_among, IsBehindCallees, is_short}
use Rattle.aml_calls.specs.Pairs.{calls_in, IsCallOrder, named, numbers, Pair}
use Rattle.aml_calls.proofs.Among.{among_all, among_append, among_cases, append_cases, first_among, is_false, neither, not_both, or_left, or_right, rest_among}
use Rattle.aml_calls.proofs.ChainLaws.{chains_are_counted}
use Rattle.aml_calls.proofs.GoingOn.{among_at, numbers_take}
use Rattle.aml_calls.proofs.Searching.{same_or_other}
use Rattle.aml_components.specs.Heights.{are_low, BeginsWith, height_at, MayRaise, Tells, too_long}

height_get : (heights : List ℕ) (k : ℕ) → height_at heights k ≡ get_or heights k 1
height_get heights k = unwrap_or-slice_get heights k 1

pub height_same : (heights : List ℕ) (k h : ℕ) → k < length heights →
    height_at (set heights k h) k ≡ h
height_same heights k h lt = height_get (set heights k h) k ∙ get_or-set_same heights k h 1 lt

pub height_other : (heights : List ℕ) (k j h : ℕ) → j ≢ k →
    height_at (set heights k h) j ≡ height_at heights j
height_other heights k j h other =
    height_get (set heights k h) j ∙ get_or-set_other heights k j h 1 other
    ∙ sym (height_get heights j)

-- one more method is endless
pub begins_more : (ids : List ObjectId) (i : ℕ) (o : ObjectId) (room : ℕ) (heights : List ℕ) →
    i < length ids → (get_or ids i o).0 < room → BeginsWith (numbers (take i ids)) room heights →
    BeginsWith (numbers (take (i + 1) ids)) room (set heights (get_or ids i o).0 too_long)
begins_more ids i o room heights lt below h =
    let m = (get_or ids i o).0 in
    subst (λ ks. BeginsWith ks room (set heights m too_long)) (sym (numbers_take ids i o lt))
    (record {
      sized = length-set heights m too_long ∙ h.sized;
      are = λ k.
          same_or_other
          (height_at (set heights m too_long) k ≡
          (if is_among k (numbers (take i ids) ++ m ∷ []) then too_long else 1)) k m
          (λ same. subst
          (λ j. height_at (set heights m too_long) j ≡
          (if is_among j (numbers (take i ids) ++ m ∷ []) then too_long else 1)) (sym same)
          (height_same heights m too_long (let s = h.sized in omega (arith, s, below))
          ∙ sym (taken (is_among m (numbers (take i ids) ++ m ∷ []))
          (last m (numbers (take i ids))))))
          (λ other. height_other heights m k too_long other ∙ h.are k
          ∙ ap (λ b. if b then too_long else 1)
          (sym (not_last k m (numbers (take i ids)) other)));
    })
  where
    taken : (b : Bool) → b ≡ true → (if b then too_long else 1) ≡ too_long
    taken true e = refl
    taken false e = absurd cc

    last : (m : ℕ) (ks : List ℕ) → is_among m (ks ++ m ∷ []) ≡ true
    last m ks =
        among_append m ks (m ∷ [])
        ∙ or_right (is_among m ks) (is_among m (m ∷ [])) (first_among m [])

    not_last : (k m : ℕ) (ks : List ℕ) → k ≢ m → is_among k (ks ++ m ∷ []) ≡ is_among k ks
    not_last k m ks other =
        among_append k ks (m ∷ [])
        ∙ by (is_among k ks) (is_among k (m ∷ []))
        (is_false (is_among k (m ∷ [])) (λ f. among_cases ⊥ k m [] f other (λ g. absurd cc)))
      where
        by : (p q : Bool) → q ≡ false → (p || q) ≡ p
        by true q e = refl
        by false q e = e

-- the methods so far have their heights, and so have those that do not stand in the order
pub record RaisedTo (calls : ℕ → List ℕ) (ordered : List ObjectId) (i : ℕ)
    (heights : List ℕ) : Type 0 where
  pub room : (k : ℕ) → is_among k (numbers ordered) ≡ true → k < length heights
  pub behind : IsBehindCallees calls [] (numbers ordered)
  pub so_far : (k : ℕ) → is_among k (numbers (take i ordered)) ≡ true → Tells calls heights k
  pub others : (k : ℕ) → is_among k (numbers ordered) ≡ false → Tells calls heights k

-- what a method calls stands before it
module _ (calls : ℕ → List ℕ) where
  before : (done : List ℕ) (ids : List ObjectId) (i : ℕ) (o : ObjectId) → i < length ids →
      IsBehindCallees calls done (numbers ids) → (j : ℕ) →
      is_among j (calls (get_or ids i o).0) ≡ true →
      (is_among j (numbers (take i ids)) || is_among j done) ≡ true
  before done [] i o lt h j e = absurd (omega arith)
  before done (x ∷ xs) zero o lt h j e = among_all (λ k. is_among k done) j (calls x.0) e h.0
  before done (x ∷ xs) (suc i) o lt h j e =
      moved (j == x.0) (is_among j (numbers (take i xs))) (is_among j done)
      (before (x.0 ∷ done) xs i o (omega arith) h.2 j e)
    where
      moved : (p q r : Bool) → (q || (p || r)) ≡ true → ((p || q) || r) ≡ true
      moved true q r f = refl
      moved false q r f = f

  -- of a method whose callees have their heights, one more than the greatest of them is its height
  tells_above : (heights : List ℕ) (k most : ℕ) →
      ((d : ℕ) → nat_le most d ≡ are_low heights d (calls k)) →
      ((j : ℕ) → is_among j (calls k) ≡ true → Tells calls heights j) → (d : ℕ) → d < too_long →
      nat_le (min (suc most) too_long) d ≡ is_short calls d k
  unfolding is_short
  tells_above heights k most h told zero lt = none most
    where
      none : (n : ℕ) → nat_le (min (suc n) too_long) 0 ≡ false
      none n = grind (arith, nat_tests)
  tells_above heights k most h told (suc d) lt = one_less most d lt ∙ h d ∙ same (calls k) told
    where
      one_less : (n d : ℕ) → suc d < too_long → nat_le (min (suc n) too_long) (suc d) ≡ nat_le n d
      one_less n d below = grind (arith, nat_tests)

      same : (ks : List ℕ) → ((j : ℕ) → is_among j ks ≡ true → Tells calls heights j) →
          list_all (λ j. nat_le (height_at heights j) d) ks ≡ list_all (is_short calls d) ks
      same [] t = refl
      same (j ∷ js) t =
          ap (λ b. b && list_all (λ i. nat_le (height_at heights i) d) js)
          (t j (first_among j js) d (omega arith))
          ∙ ap (λ b. is_short calls d j && b) (same js (λ i e. t i (rest_among i j js e)))

  pub raised_more : (ordered : List ObjectId) (i : ℕ) (o : ObjectId) (heights : List ℕ)
      (most new : ℕ) → i < length ordered → new ≡ min (suc most) too_long →
      ((d : ℕ) → nat_le most d ≡ are_low heights d (calls (get_or ordered i o).0)) →
      RaisedTo calls ordered i heights →
      RaisedTo calls ordered (i + 1) (set heights (get_or ordered i o).0 new)
  raised_more ordered i o heights most new lt e h r = record {
    room = λ k f. let below = r.room k f in let same = length-set heights m new in
        omega (arith, below, same);
    behind = r.behind;
    so_far = λ k f. append_cases (Tells calls now k) k m (numbers (take i ordered))
        (subst (λ ks. is_among k ks ≡ true) (numbers_take ordered i o lt) f)
        (λ g. same_or_other (Tells calls now k) k m
        (λ same. subst (Tells calls now) (sym same) here)
        (λ other. kept k other (r.so_far k g)))
        (λ same. subst (Tells calls now) (sym same) here);
    others = λ k f.
        same_or_other (Tells calls now k) k m (λ same. subst (Tells calls now) (sym same) here)
        (λ other. kept k other (r.others k f));
  }
    where
      m : ℕ
      m = (get_or ordered i o).0

      now : List ℕ
      now = set heights m new

      inside : m < length heights
      inside = r.room m (among_at ordered i o lt)

      callee : (j : ℕ) → is_among j (calls m) ≡ true → Tells calls heights j
      callee j f =
          r.so_far j
          (or_none (is_among j (numbers (take i ordered))) (before [] ordered i o lt r.behind j f))
        where
          or_none : (p : Bool) → (p || false) ≡ true → p ≡ true
          or_none true g = refl
          or_none false g = g

      here : Tells calls now m
      here d below =
          ap (λ n. nat_le n d) (height_same heights m new inside ∙ e)
          ∙ tells_above heights m most h callee d below

      kept : (k : ℕ) → k ≢ m → Tells calls heights k → Tells calls now k
      kept k other t d below = ap (λ n. nat_le n d) (height_other heights m k new other) ∙ t d below

-- a method that no pair names calls none
pub calls_none : (ps : List Pair) (k : ℕ) → is_among k (named ps) ≡ false → calls_in ps k ≡ []
calls_none [] k e = refl
calls_none (p ∷ ps) k e =
    let two = or_parts (k == p.0.0) (is_among k (numbers p.1.items ++ named ps)) e in
    let more = or_parts (is_among k (numbers p.1.items)) (is_among k (named ps))
    (sym (among_append k (numbers p.1.items) (named ps)) ∙ two.1) in
    by (p.0.0 == k) (nat_eq_equiv.symm p.0.0 k ∙ two.0) (calls_none ps k more.1)
  where
    by : (b : Bool) → b ≡ false → calls_in ps k ≡ [] →
        (if b then numbers p.1.items else calls_in ps k) ≡ []
    by true f g = absurd cc
    by false f g = g

-- a method that calls none is a chain of one
alone : (calls : ℕ → List ℕ) (k d : ℕ) → calls k ≡ [] → nat_le 1 d ≡ is_short calls d k
unfolding is_short
alone calls k zero e = refl
alone calls k (suc d) e = one d ∙ sym (ap (list_all (is_short calls d)) e)
  where
    one : (n : ℕ) → nat_le 1 (suc n) ≡ true
    one n = grind (arith, nat_tests)

endless : (d : ℕ) → d < too_long → nat_le too_long d ≡ false
endless d lt = grind (arith, nat_tests)

-- the others' heights in the beginning
pub may_raise : (ps : List Pair) (ordered others heights : List ℕ) (room : ℕ) →
    IsCallOrder ps ordered others → ((k : ℕ) → is_among k (named ps) ≡ true → k < room) →
    BeginsWith others room heights → MayRaise (calls_in ps) ordered heights
may_raise ps ordered others heights room order inside h = record {
  room = λ k e. let below =
      inside k (order.only k (or_left (is_among k ordered) (is_among k others) e)) in
      let same = h.sized in omega (arith, below, same);
  behind = order.behind;
  others = λ k e d lt. by k e (is_among k others) refl d lt;
}
  where
    by : (k : ℕ) → is_among k ordered ≡ false → (b : Bool) → is_among k others ≡ b → (d : ℕ) →
        d < too_long → nat_le (height_at heights k) d ≡ is_short (calls_in ps) d k
    by k e true f d lt =
        ap (λ n. nat_le n d) (h.are k ∙ ap (λ b. if b then too_long else 1) f) ∙ endless d lt
        ∙ sym ((chains_are_counted (calls_in ps)).cycle d k (order.cycles k f))
    by k e false f d lt =
        ap (λ n. nat_le n d) (h.are k ∙ ap (λ b. if b then too_long else 1) f)
        ∙ alone (calls_in ps) k d
        (calls_none ps k
        (is_false (is_among k (named ps))
        (λ g. not_both (is_among k ordered || is_among k others) (order.all k g)
        (neither (is_among k ordered) (is_among k others) e f))))
