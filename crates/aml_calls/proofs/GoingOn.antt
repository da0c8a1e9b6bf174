-- A search goes on, step by step: what its methods say of it.
use Rattle.std.proofs.Common.{Vec, ◌≡◌, ◌<◌, ◌≤◌, ◌+◌, ℕ, zero, suc, List, [], ◌∷◌, ◌++◌, length, take, get_or, refl, sym, ap, ◌∙◌, subst, arith, inl, inr, length-append}
use Rattle.std.proofs.lemmas.List.{get_or_past, get_or-replicate, length-replicate, map_push, take_all, take_more}
use Rattle.std.proofs.lemmas.List.Folds.{list_all_more}
use Rattle.std.proofs.lemmas.Grind.{get_or_default_zero}
use Rattle.std.proofs.lemmas.Option.{slice_get_past}
use Rattle.std.proofs.Math.ListN.{get_or-map, replicate, set}
use Rattle.std.proofs.lemmas.Bool.Decides.{leb_tells}
use Rattle.std.specs.declared.alloc.Global.{Global}
use Rattle.std.specs.Prelude.{Bool, true, false, ◌⊎◌, ◌&&◌, ◌||◌, slice_get, OnOk, Some, None, Result, Ok, Err}
use Rattle.std.specs.Vec.{with_item}
use Rattle.aml_paths.specs.declared.scope.ObjectId.{ObjectId}
use Rattle.aml_calls.specs.declared.order.Mark.{Mark}
use Rattle.aml_calls.specs.declared.order.Mark.TheVariants.{Begun, New, Placed}
use Rattle.aml_calls.specs.declared.order.Search.{Search}
use Rattle.aml_calls.specs.Chains.{is_among}
use Rattle.aml_calls.specs.Pairs.{calls_in, named, named_by, numbers, Pair}
use Rattle.aml_calls.specs.Search.{all_placed, Begins, GoesOn, IsSearch, is_new, is_placed, left, mark_at, SearchesOn, Visits, VisitsAll}
use Rattle.aml_calls.proofs.Among.{among_append, among_cases, append_cases, first_among, rest_among}
use Rattle.aml_calls.proofs.Places.{named_more}
use Rattle.aml_calls.proofs.Visited.{HasVisited}
use Rattle.aml_calls.proofs.Marks.{mark_get, mark_same}
use Rattle.aml_calls.proofs.Searching.{begin, begin_keeps, begin_less, first, first_keeps, keeps_same, keeps_then, leave, place, place_keeps, place_less}

pub numbers_push : (ids : List ObjectId) (id : ObjectId) → numbers (ids ++ id ∷ []) ≡ numbers ids ++ id.0 ∷ []
numbers_push ids id = map_push (λ (x : ObjectId). x.0) ids id

pub length_numbers : (xs : List ObjectId) → length (numbers xs) ≡ length xs
length_numbers [] = refl
length_numbers (x ∷ xs) = ap suc (length_numbers xs)

-- one callee more stands in the order
pub all_placed_more : (marks : List Mark) (row : List ObjectId) (i : ℕ) (d : ObjectId) → i < length row → all_placed marks (take i (numbers row)) ≡ true → is_placed (mark_at marks (get_or row i d).0) ≡ true → all_placed marks (take (i + 1) (numbers row)) ≡ true
all_placed_more marks row i d lt e f =
    list_all_more (λ j. is_placed (mark_at marks j)) (numbers row) i d.0 (longer row lt)
    ∙ both (all_placed marks (take i (numbers row))) (is_placed (mark_at marks (get_or (numbers row) i d.0))) e (ap (λ n. is_placed (mark_at marks n)) (get_or-map (λ (x : ObjectId). x.0) row i d) ∙ f)
  where
    both : (p q : Bool) → p ≡ true → q ≡ true → (p && q) ≡ true
    both true q g h = h
    both false q g h = absurd cc

    longer : (xs : List ObjectId) → i < length xs → i < length (numbers xs)
    longer xs h = let same = length_numbers xs in omega (arith, same, h)

-- past the last there is none
pub none_past : (row : List ObjectId) (i callee : ℕ) → length row ≤ i → slice_get (numbers row) i ≡ Some callee → ⊥
none_past row i callee le e =
    let none = slice_get_past (numbers row) i (let same = length_numbers row in omega (arith, same, le)) in
    let clash : Some callee ≡ None = sym e ∙ none in cc

pub begun_of : (m : Mark) → (m ≡ Begun) ⊎ (m ≡ Placed) → is_placed m ≡ false → m ≡ Begun
begun_of m (inl e) f = e
begun_of m (inr e) f = absurd (let placed : is_placed m ≡ true = ap is_placed e in let clash : true ≡ false = sym placed ∙ f in cc)

module _ (calls : ℕ → List ℕ) (all : List ℕ) (old : Search) where
  pub placed : (method : ObjectId) (ordered : Vec ObjectId Global) → ordered.items ≡ old.ordered.items ++ method ∷ [] → SearchesOn calls all (numbers old.path.items ++ method.0 ∷ []) old → all_placed old.marks.items (calls method.0) ≡ true → GoesOn calls all old (record { marks = with_item old.marks method.0 Placed; passed = old.passed; path = old.path; ordered = ordered })
  placed method ordered e s full = record {
    searches = subst (λ ks. IsSearch calls all (set old.marks.items method.0 Placed) old.passed.items (numbers old.path.items) ks) (sym (ap numbers e ∙ numbers_push old.ordered.items method))
        (place calls all old.marks.items old.passed.items (numbers old.ordered.items) (numbers old.path.items) method.0 s full);
    keeps = place_keeps calls all old.marks.items old.passed.items (numbers old.ordered.items) (numbers old.path.items) method.0 s;
    less = place_less calls all old.marks.items old.passed.items (numbers old.ordered.items) (numbers old.path.items) method.0 s;
  }

  pub entered : (method callee : ObjectId) (next : ℕ) (between path : Vec ObjectId Global) → between.items ≡ old.path.items ++ method ∷ [] → path.items ≡ between.items ++ callee ∷ [] → SearchesOn calls all (numbers old.path.items ++ method.0 ∷ []) old → is_among callee.0 (calls method.0) ≡ true → is_among callee.0 all ≡ true → mark_at old.marks.items callee.0 ≡ New → all_placed old.marks.items (take next (calls method.0)) ≡ true → GoesOn calls all old (record { marks = with_item old.marks callee.0 Begun; passed = with_item old.passed method.0 next; path = path; ordered = old.ordered })
  entered method callee next between path e f s called inside new full = record {
    searches = subst (λ ks. IsSearch calls all (set old.marks.items callee.0 Begun) (set old.passed.items method.0 next) ks (numbers old.ordered.items)) (sym same)
        (begin calls all old.marks.items old.passed.items (numbers old.ordered.items) (numbers old.path.items) method.0 s callee.0 next called inside new full);
    keeps = begin_keeps calls all old.marks.items old.passed.items (numbers old.ordered.items) (numbers old.path.items) method.0 s callee.0 next called inside new;
    less = subst (λ ks. left (set old.marks.items callee.0 Begun) ks ≤ left old.marks.items (numbers old.path.items)) (sym same)
        (begin_less calls all old.marks.items old.passed.items (numbers old.ordered.items) (numbers old.path.items) method.0 s callee.0 next called inside new);
  }
    where
      same : numbers path.items ≡ (numbers old.path.items ++ method.0 ∷ []) ++ callee.0 ∷ []
      same = ap numbers f ∙ numbers_push between.items callee ∙ ap (λ ks. ks ++ callee.0 ∷ []) (ap numbers e ∙ numbers_push old.path.items method)

  pub left_all : (method callee : ObjectId) (path : Vec ObjectId Global) → path.items ≡ [] → SearchesOn calls all (numbers old.path.items ++ method.0 ∷ []) old → is_among callee.0 (calls method.0) ≡ true → mark_at old.marks.items callee.0 ≡ Begun → GoesOn calls all old (record { marks = old.marks; passed = old.passed; path = path; ordered = old.ordered })
  left_all method callee path e s called begun = record {
    searches = subst (λ ks. IsSearch calls all old.marks.items old.passed.items ks (numbers old.ordered.items)) (sym (ap numbers e))
        (leave calls all old.marks.items old.passed.items (numbers old.ordered.items) (numbers old.path.items) method.0 s callee.0 called begun);
    keeps = keeps_same old.marks.items;
    less = subst (λ ks. left old.marks.items ks ≤ left old.marks.items (numbers old.path.items)) (sym (ap numbers e)) (omega arith);
  }

-- a search that has begun nothing
new_at : (room k : ℕ) → mark_at (replicate room New) k ≡ New
new_at room k = mark_get (replicate room New) k ∙ elim (leb_tells room k) [
  | inl e ↦ get_or_past (replicate room New) k New (let same = length-replicate room New in let le = e.1 in omega (arith, same, le))
  | inr e ↦ get_or-replicate room k New New e.1
]

none_passed : (room k : ℕ) → get_or (replicate room zero) k zero ≡ zero
none_passed room k = elim (leb_tells room k) [
  | inl e ↦ get_or_past (replicate room zero) k zero (let same = length-replicate room zero in let le = e.1 in omega (arith, same, le))
  | inr e ↦ get_or-replicate room k zero zero e.1
]

pub begins : (calls : ℕ → List ℕ) (all : List ℕ) (room : ℕ) (marks : List Mark) (passed : List ℕ) (path ordered : List ObjectId) → marks ≡ replicate room New → passed ≡ replicate room zero → path ≡ [] → ordered ≡ [] → ((k : ℕ) → is_among k all ≡ true → k < room) → IsSearch calls all marks passed (numbers path) (numbers ordered)
begins calls all room marks passed path ordered m p q o h =
    subst (λ ms. IsSearch calls all ms passed (numbers path) (numbers ordered)) (sym m)
    (subst (λ ns. IsSearch calls all (replicate room New) ns (numbers path) (numbers ordered)) (sym p)
    (subst (λ ks. IsSearch calls all (replicate room New) (replicate room zero) (numbers ks) (numbers ordered)) (sym q)
    (subst (λ ks. IsSearch calls all (replicate room New) (replicate room zero) [] (numbers ks)) (sym o) first)))
  where
    sized : (n : ℕ) → length (replicate n New) ≡ n
    sized n = length-replicate n New

    zeros : (n : ℕ) → length (replicate n zero) ≡ n
    zeros n = length-replicate n zero

    nothing : (ks : List ℕ) → all_placed (replicate room New) (take 0 ks) ≡ true
    nothing [] = refl
    nothing (k ∷ ks) = refl

    first : IsSearch calls all (replicate room New) (replicate room zero) [] []
    first = record {
      sized = zeros room ∙ sym (sized room);
      room = λ k e. let lt = h k e in let same = sized room in omega (arith, lt, same);
      only = λ k e. absurd (let new : is_new (mark_at (replicate room New) k) ≡ true = ap is_new (new_at room k) in let clash : true ≡ false = sym new ∙ e in cc);
      on_path = λ k e. absurd cc;
      once = refl;
      chain = tt;
      was_left = λ k e away. absurd (let clash : New ≡ Begun = sym (new_at room k) ∙ e in cc);
      behind = tt;
      placed = λ k. ap is_placed (new_at room k);
      passes = λ k. ap (λ n. all_placed (replicate room New) (take n (calls k))) (none_passed room k) ∙ nothing (calls k);
    }

-- what an answer says where it is Ok
pub on_ok : {T E : Type 0} (r : Result T E) (P Q : Type 0) → OnOk r P → (P → Q) → OnOk r Q
on_ok (Ok v) P Q h f = f h
on_ok (Err e) P Q h f = tt

-- the callee of a number is among all
pub called_at : (row : List ObjectId) (i : ℕ) (callee : ObjectId) → slice_get row i ≡ Some callee → is_among callee.0 (numbers row) ≡ true
called_at [] i callee e = absurd cc
called_at (x ∷ xs) zero callee e = let same : x ≡ callee = cc in subst (λ (y : ObjectId). is_among callee.0 (y.0 ∷ numbers xs) ≡ true) (sym same) (first_among callee.0 (numbers xs))
called_at (x ∷ xs) (suc i) callee e = rest_among callee.0 x.0 (numbers xs) (called_at xs i callee e)

-- and its number stands there
pub numbered_at : (row : List ObjectId) (i : ℕ) (callee : ObjectId) → slice_get row i ≡ Some callee → slice_get (numbers row) i ≡ Some callee.0
numbered_at [] i callee e = absurd cc
numbered_at (x ∷ xs) zero callee e = let same : x ≡ callee = cc in ap (λ (y : ObjectId). Some y.0) same
numbered_at (x ∷ xs) (suc i) callee e = numbered_at xs i callee e

-- where there is none, a list ends before
pub none_behind : (row : List ObjectId) (i : ℕ) → slice_get row i ≡ None → length row ≤ i
none_behind [] i e = omega arith
none_behind (x ∷ xs) zero e = absurd cc
none_behind (x ∷ xs) (suc i) e = let le = none_behind xs i e in omega (arith, le)

-- all callees are passed where so many are that there are no more
pub passed_here : (marks : List Mark) (row : List ObjectId) (i : ℕ) → length row ≤ i → all_placed marks (take i (numbers row)) ≡ true → all_placed marks (numbers row) ≡ true
passed_here marks row i le e = sym (ap (all_placed marks) (take_all i (numbers row) (let same = length_numbers row in omega (arith, same, le)))) ∙ e

new_is : (m : Mark) → is_new m ≡ true → m ≡ New
new_is New e = refl
new_is Begun e = absurd cc
new_is Placed e = absurd cc

pub begun_first : (calls : ℕ → List ℕ) (all : List ℕ) (old : Search) (method : ObjectId) (path : Vec ObjectId Global) → path.items ≡ old.path.items ++ method ∷ [] → SearchesOn calls all [] old → old.path.items ≡ [] → is_among method.0 all ≡ true → is_new (mark_at old.marks.items method.0) ≡ true → Begins calls all method.0 old (record { marks = with_item old.marks method.0 Begun; passed = old.passed; path = path; ordered = old.ordered })
begun_first calls all old method path e s ended inside new = record {
  searches = subst (λ ks. IsSearch calls all (set old.marks.items method.0 Begun) old.passed.items ks (numbers old.ordered.items)) (sym same)
      (first calls all old.marks.items old.passed.items (numbers old.ordered.items) method.0 s inside is);
  keeps = first_keeps calls all old.marks.items old.passed.items (numbers old.ordered.items) method.0 s inside is;
  begun = ap is_new (mark_same old.marks.items method.0 Begun (s.room method.0 inside));
}
  where
    is : mark_at old.marks.items method.0 ≡ New
    is = new_is (mark_at old.marks.items method.0) new

    same : numbers path.items ≡ method.0 ∷ []
    same = ap numbers (e ∙ ap (λ (ids : List ObjectId). ids ++ method ∷ []) ended)

-- one more of some methods
pub numbers_take : (row : List ObjectId) (i : ℕ) (d : ObjectId) → i < length row → numbers (take (i + 1) row) ≡ numbers (take i row) ++ (get_or row i d).0 ∷ []
numbers_take row i d lt = ap numbers (take_more row i d lt) ∙ numbers_push (take i row) (get_or row i d)

pub among_at : (row : List ObjectId) (i : ℕ) (d : ObjectId) → i < length row → is_among (get_or row i d).0 (numbers row) ≡ true
among_at [] i d lt = absurd (omega arith)
among_at (x ∷ xs) zero d lt = first_among x.0 (numbers xs)
among_at (x ∷ xs) (suc i) d lt = rest_among (get_or xs i d).0 x.0 (numbers xs) (among_at xs i d (omega arith))

pub visits_more : (calls : ℕ → List ℕ) (all : List ℕ) (row : List ObjectId) (i : ℕ) (d : ObjectId) (old between new : Search) → i < length row → VisitsAll calls all (numbers (take i row)) old between → Visits calls all (get_or row i d).0 between new → VisitsAll calls all (numbers (take (i + 1) row)) old new
visits_more calls all row i d old between new lt h v = record {
  searches = v.searches;
  keeps = keeps_then old.marks.items between.marks.items new.marks.items h.keeps v.keeps;
  ended = v.ended;
  begun = λ k e. append_cases (is_new (mark_at new.marks.items k) ≡ false) k (get_or row i d).0 (numbers (take i row)) (subst (λ ks. is_among k ks ≡ true) (numbers_take row i d lt) e)
      (λ f. v.keeps.begun k (h.begun k f))
      (λ same. subst (λ n. is_new (mark_at new.marks.items n) ≡ false) (sym same) v.begun);
}

-- and one more pair
pub pair_more : (ps : List Pair) (i : ℕ) (p : Pair) (row : List ObjectId) (old between new : Search) → i < length ps → p ≡ get_or ps i p → row ≡ p.1.items → HasVisited (calls_in ps) (named ps) (named (take i ps)) old → Visits (calls_in ps) (named ps) p.0.0 old between → VisitsAll (calls_in ps) (named ps) (numbers row) between new → HasVisited (calls_in ps) (named ps) (named (take (i + 1) ps)) new
pair_more ps i p row old between new lt is same h v w = record {
  searches = w.searches;
  ended = w.ended;
  begun = λ k e. by k (is_among k (named (take i ps))) refl (sym (among_append k (named (take i ps)) (named_by p)) ∙ subst (λ ks. is_among k ks ≡ true) (named_more ps i p lt is) e);
}
  where
    by : (k : ℕ) (b : Bool) → is_among k (named (take i ps)) ≡ b → (b || is_among k (named_by p)) ≡ true → is_new (mark_at new.marks.items k) ≡ false
    by k true f g = w.keeps.begun k (v.keeps.begun k (h.begun k f))
    by k false f g = among_cases (is_new (mark_at new.marks.items k) ≡ false) k p.0.0 (numbers p.1.items) g
        (λ this. subst (λ n. is_new (mark_at new.marks.items n) ≡ false) (sym this) (w.keeps.begun p.0.0 v.begun))
        (λ r. w.begun k (subst (λ (xs : List ObjectId). is_among k (numbers xs) ≡ true) (sym same) r))

-- a list without elements
pub empty_of : {X : Type 0} (xs : List X) → length xs ≡ 0 → xs ≡ []
empty_of [] e = refl
empty_of (x ∷ xs) e = absurd (omega (arith, e))

-- the callees that a search knows to stand in the order, as they are looked at
pub passed_known : (marks ms : List Mark) (row : List ObjectId) (ks passed : List ℕ) (m known : ℕ) → ms ≡ marks → numbers row ≡ ks → known ≡ get_or passed m known → m < length passed → all_placed marks (take (get_or passed m 0) ks) ≡ true → all_placed ms (take known (numbers row)) ≡ true
passed_known marks ms row ks passed m known e f k lt h =
    subst (λ (xs : List Mark). all_placed xs (take known (numbers row)) ≡ true) (sym e)
    (subst (λ (js : List ℕ). all_placed marks (take known js) ≡ true) (sym f)
    (subst (λ n. all_placed marks (take n ks) ≡ true) (sym (k ∙ get_or_default_zero passed m known lt)) h))

pub placed_there : (marks ms : List Mark) (row : List ObjectId) (ks : List ℕ) (n : ℕ) → ms ≡ marks → numbers row ≡ ks → all_placed ms (take n (numbers row)) ≡ true → all_placed marks (take n ks) ≡ true
placed_there marks ms row ks n e f h = subst (λ (xs : List Mark). all_placed xs (take n ks) ≡ true) e (subst (λ (js : List ℕ). all_placed ms (take n js) ≡ true) f h)

pub all_there : (marks ms : List Mark) (row : List ObjectId) (ks : List ℕ) → ms ≡ marks → numbers row ≡ ks → all_placed ms (numbers row) ≡ true → all_placed marks ks ≡ true
all_there marks ms row ks e f h = subst (λ (xs : List Mark). all_placed xs ks ≡ true) e (subst (λ (js : List ℕ). all_placed ms js ≡ true) f h)

-- one fewer is on the path
pub less_left : (marks now : List Mark) (old popped path : List ObjectId) (last : ObjectId) → old ≡ popped ++ last ∷ [] → left now (numbers path) ≤ left marks (numbers popped) → left now (numbers path) < left marks (numbers old)
less_left marks now old popped path last e le =
    let longer : length (numbers old) ≡ length (numbers popped) + 1 = ap (λ (ids : List ObjectId). length (numbers ids)) e ∙ ap length (numbers_push popped last) ∙ length-append (numbers popped) (last.0 ∷ []) in
    omega (arith, le, longer)
