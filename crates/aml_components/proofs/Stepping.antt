-- A search goes on, step by step: what its methods say of it.
use Rattle.std.proofs.Common.{◌≡◌, ◌<◌, ◌≤◌, ◌+◌, ◌*◌, ℕ, suc, List, [], ◌∷◌, ◌++◌, length, take, drop, refl, sym, ap, ◌∙◌, subst, arith, length-append, append_assoc}
use Rattle.std.proofs.Math.ListN.{set}
use Rattle.std.proofs.lemmas.List.{drop-map, take-map}
use Rattle.std.proofs.lemmas.Option.{slice_get_within}
use Rattle.std.proofs.Math.Nat.{mul-le-mul_right}
use Rattle.std.specs.List.{count_by}
use Rattle.std.specs.Prelude.{Bool, true, false, ◌==◌, if◌then◌else◌}
use Rattle.aml_paths.specs.declared.scope.ObjectId.{ObjectId}
use Rattle.aml_calls.specs.Chains.{is_among, Reaches}
use Rattle.aml_calls.specs.Pairs.{calls_in, named, named_by, numbers, Pair}
use Rattle.aml_calls.proofs.ChainLaws.{reaches_more}
use Rattle.aml_calls.proofs.GoingOn.{length_numbers}
use Rattle.aml_components.specs.declared.search.Call.{Call}
use Rattle.aml_components.specs.declared.search.Mark.{Mark}
use Rattle.aml_components.specs.declared.search.Mark.TheVariants.{Closed, New, Open}
use Rattle.aml_components.specs.declared.search.Search.{Search}
use Rattle.aml_components.specs.Search.{AreClosed, Begins, Caller, callers, calls_from, Closes, GoesOn, is_new, IsCut, IsSearch, Keeps, LeadsTo, left, mark_at, SearchesWith}
use Rattle.aml_components.proofs.Closing.{close, close_keeps}
use Rattle.aml_components.proofs.Finding.{begin, begin_keeps, cut, cut_leads, looked, looked_last}
use Rattle.aml_components.proofs.Marking.{mark_same, new_less}
use Rattle.aml_components.proofs.Waiting.{waits_back, waits_itself}

-- what is known of equal parts
pub known_too : (calls : ℕ → List ℕ) (marks marks' : List Mark)
    (opened opened' roots roots' : List ℕ) (waiting waiting' : List Call) (closed closed' : ℕ) →
    marks' ≡ marks → opened' ≡ opened → roots' ≡ roots → waiting' ≡ waiting → closed' ≡ closed →
    IsSearch calls marks opened roots waiting closed →
    IsSearch calls marks' opened' roots' waiting' closed'
known_too calls marks marks' opened opened' roots roots' waiting waiting' closed closed' m o r w c s
    =
    subst (λ ms. IsSearch calls ms opened' roots' waiting' closed') (sym m)
    (subst (λ ks. IsSearch calls marks ks roots' waiting' closed') (sym o)
    (subst (λ ks. IsSearch calls marks opened ks waiting' closed') (sym r)
    (subst (λ cs. IsSearch calls marks opened roots cs closed') (sym w)
    (subst (λ n. IsSearch calls marks opened roots waiting n) (sym c) s))))

pub keeps_same : (marks : List Mark) → Keeps marks marks
keeps_same marks = record { sized = refl; begun = λ k e. e }

pub keeps_then : (old between new : List Mark) → Keeps old between → Keeps between new →
    Keeps old new
keeps_then old between new h g =
    record { sized = g.sized ∙ h.sized; begun = λ k e. g.begun k (h.begun k e) }

length_from : (place : ℕ) (row : List ObjectId) → length (calls_from place row) ≡ length row
length_from place [] = refl
length_from place (x ∷ xs) = ap suc (length_from place xs)

-- no method calls more than pairs name
pub calls_most : (ps : List Pair) (k : ℕ) → length (calls_in ps k) ≤ length (named ps)
calls_most [] k = omega arith
calls_most (p ∷ ps) k = by (p.0.0 == k) (calls_most ps k)
  where
    by : (b : Bool) → length (calls_in ps k) ≤ length (named ps) →
        length (if b then numbers p.1.items else calls_in ps k) ≤ length (named_by p ++ named ps)
    by true le = let long = length-append (named_by p) (named ps) in omega (arith, long)
    by false le = let long = length-append (named_by p) (named ps) in omega (arith, long, le)

module _ (calls : ℕ → List ℕ) (old new : Search) where
  -- a method is begun that all open ones reach
  module _ (waiting : List Call) (k : ℕ) (s : SearchesWith calls old.roots.items waiting old)
      (is : mark_at old.marks.items k ≡ New) (lt : k < length old.marks.items) (there : (i p : ℕ) →
      mark_at old.marks.items i ≡ Open p → Reaches calls i k) (b : Begins calls k old new) where
    place_is : length (numbers old.opened.items) ≡ b.place
    place_is = length_numbers old.opened.items ∙ sym b.behind

    pub begun_any : IsSearch calls new.marks.items (numbers new.opened.items) new.roots.items
        (waiting ++ calls_from b.place b.row) new.closed
    begun_any = known_too calls (set old.marks.items k (Open b.place)) new.marks.items
        (numbers old.opened.items ++ k ∷ []) (numbers new.opened.items)
        (old.roots.items ++ b.place ∷ []) new.roots.items (waiting ++ calls_from b.place b.row)
        (waiting ++ calls_from b.place b.row) old.closed new.closed b.marks b.opened b.roots refl
        b.closed
        (subst (λ n.
        IsSearch calls (set old.marks.items k (Open n)) (numbers old.opened.items ++ k ∷ [])
        (old.roots.items ++ n ∷ []) (waiting ++ calls_from n b.row) old.closed) place_is
        (begin calls old.marks.items (numbers old.opened.items) old.roots.items waiting old.closed s
        k b.row b.callees lt is there))

    pub begun_keeps : Keeps old.marks.items new.marks.items
    begun_keeps = subst (Keeps old.marks.items) (sym b.marks)
        (subst (λ n. Keeps old.marks.items (set old.marks.items k (Open n))) place_is
        (begin_keeps calls old.marks.items (numbers old.opened.items) old.roots.items waiting
        old.closed s k b.row b.callees lt is there))

    pub begun_mark : mark_at new.marks.items k ≡ Open b.place
    begun_mark = ap (λ (ms : List Mark). mark_at ms k) b.marks
        ∙ mark_same old.marks.items k (Open b.place) lt

    pub begun_less : (most : ℕ) → length (calls k) ≤ most → left most new ≤ left most old
    begun_less most le =
        let one : count_by is_new new.marks.items + 1 ≡ count_by is_new old.marks.items =
        ap (λ (ms : List Mark). count_by is_new ms + 1) b.marks
        ∙ new_less old.marks.items k (Open b.place) lt is refl in
        let calls_more : length new.waiting.items ≡ length old.waiting.items + length b.row =
        ap length b.waiting ∙ length-append old.waiting.items (calls_from b.place b.row)
        ∙ ap (λ n. length old.waiting.items + n) (length_from b.place b.row) in
        let roots_more : length new.roots.items ≡ length old.roots.items + 1 =
        ap length b.roots ∙ length-append old.roots.items (b.place ∷ []) in
        let few : length b.row ≤ most =
        subst (λ n. n ≤ most) (ap length (sym b.callees) ∙ length_numbers b.row) le in
        less (count_by is_new new.marks.items) (count_by is_new old.marks.items)
        (length new.waiting.items) (length old.waiting.items) (length new.roots.items)
        (length old.roots.items) (length b.row) most one calls_more roots_more few
      where
        less : (n o w v r q c m : ℕ) → n + 1 ≡ o → w ≡ v + c → r ≡ q + 1 → c ≤ m →
            n * (m + 2) + (w + r) ≤ o * (m + 2) + (v + q)
        less n o w v r q c m e f g le = let same : o * (m + 2) ≡ (n + 1) * (m + 2) =
            ap (λ x. x * (m + 2)) (sym e) in omega (arith, same, f, g, le)

  -- a call that waited is looked at
  module _ (most : ℕ) (call : Call)
      (s : SearchesWith calls old.roots.items (old.waiting.items ++ call ∷ []) old)
      (last : (r : ℕ) → is_among r old.roots.items ≡ true → r ≤ call.from) where
    by : Caller calls old.marks.items call.from call.to.0
    by = s.caller call.from call.to.0
        (waits_back old.waiting.items (call ∷ []) call.from call.to.0 (waits_itself call []))

    there : (i p : ℕ) → mark_at old.marks.items i ≡ Open p → Reaches calls i call.to.0
    there i p e =
        reaches_more calls i by.caller call.to.0
        (s.reach i by.caller p call.from e by.stands (λ r among le. last r among)) by.called

    pub called_below : call.to.0 < length old.marks.items
    called_below = s.room by.caller call.to.0 by.called

    pub look_new : mark_at old.marks.items call.to.0 ≡ New → length (calls call.to.0) ≤ most →
        Begins calls call.to.0 old new → GoesOn calls most old new
    look_new is le b = record {
      searches = subst (λ cs. SearchesWith calls new.roots.items cs new) (sym b.waiting)
          (looked calls new.marks.items (numbers new.opened.items) new.roots.items old.waiting.items
          (calls_from b.place b.row) new.closed call
          (subst (λ cs. SearchesWith calls new.roots.items cs new)
          (append_assoc old.waiting.items (call ∷ []) (calls_from b.place b.row))
          (begun_any (old.waiting.items ++ call ∷ []) call.to.0 s is called_below there b))
          leads);
      keeps = begun_keeps (old.waiting.items ++ call ∷ []) call.to.0 s is called_below there b;
      less = begun_less (old.waiting.items ++ call ∷ []) call.to.0 s is called_below there b most
          le;
    }
      where
        leads : LeadsTo new.roots.items call.from (mark_at new.marks.items call.to.0)
        leads = subst (LeadsTo new.roots.items call.from)
            (sym (begun_mark (old.waiting.items ++ call ∷ []) call.to.0 s is called_below there b))
            (λ r among le. let lt = slice_get_within (numbers old.opened.items) call.from by.caller
            (s.stands by.caller call.from by.stands) in let place =
            place_is (old.waiting.items ++ call ∷ []) call.to.0 s is called_below there b in
            omega (arith, le, lt, place))

    pub look_open : (q : ℕ) → mark_at old.marks.items call.to.0 ≡ Open q →
        IsCut old.roots.items q new.roots.items → new.marks.items ≡ old.marks.items →
        new.opened.items ≡ old.opened.items → new.waiting.items ≡ old.waiting.items →
        new.closed ≡ old.closed → GoesOn calls most old new
    look_open q at h m o w c = record {
      searches = known_too calls old.marks.items new.marks.items (numbers old.opened.items)
          (numbers new.opened.items) new.roots.items new.roots.items old.waiting.items
          new.waiting.items old.closed new.closed m (ap numbers o) refl w c
          (looked_last calls old.marks.items
          (numbers old.opened.items) new.roots.items old.waiting.items old.closed call
          (cut calls old.marks.items (numbers old.opened.items) old.roots.items
          (old.waiting.items ++ call ∷ []) old.closed s call.from call.to.0 q new.roots.items by
          last at h)
          (cut_leads calls old.marks.items (numbers old.opened.items) old.roots.items
          (old.waiting.items ++ call ∷ []) old.closed s call.from call.to.0 q new.roots.items by
          last at h));
      keeps = subst (Keeps old.marks.items) (sym m) (keeps_same old.marks.items);
      less = let shorter = h.shorter in
          let same : count_by is_new new.marks.items *
          (most + 2) ≡ count_by is_new old.marks.items * (most + 2) =
          ap (λ (ms : List Mark). count_by is_new ms * (most + 2)) m in
          let waits_same : length new.waiting.items ≡ length old.waiting.items = ap length w in
          omega (arith, shorter, same, waits_same);
    }

  pub look_closed : (most : ℕ) (call : Call) (n : ℕ) →
      SearchesWith calls old.roots.items (old.waiting.items ++ call ∷ []) old →
      mark_at old.marks.items call.to.0 ≡ Closed n → new ≡ old → GoesOn calls most old new
  look_closed most call n s at same =
      subst (λ (t : Search). GoesOn calls most old t) (sym same) (record {
        searches = looked_last calls old.marks.items
            (numbers old.opened.items) old.roots.items old.waiting.items old.closed call s
            (subst (LeadsTo old.roots.items call.from) (sym at) tt);
        keeps = keeps_same old.marks.items;
        less = omega arith;
      })

  -- the last component is closed
  pub closes : (most root : ℕ) →
      SearchesWith calls (old.roots.items ++ root ∷ []) old.waiting.items old →
      ((p : ℕ) → is_among p (callers old.waiting.items) ≡ true → p < root) → Closes root old new →
      GoesOn calls most old new
  closes most root s done h =
      let ks = numbers old.opened.items in
      let marks = h.marks in
      let closed : AreClosed (drop root ks) old.closed old.marks.items new.marks.items =
      subst (λ js. AreClosed js old.closed old.marks.items new.marks.items)
      (sym (drop-map (λ (id : ObjectId). id.0) root old.opened.items)) marks in
      record {
        searches = known_too calls new.marks.items new.marks.items (take root ks)
            (numbers new.opened.items) old.roots.items new.roots.items old.waiting.items
            new.waiting.items (old.closed + 1) new.closed refl (ap numbers h.opened
            ∙ sym (take-map (λ (id : ObjectId). id.0) root old.opened.items)) h.roots h.waiting
            h.closed
            (close calls old.marks.items ks old.roots.items root old.waiting.items old.closed s done
            new.marks.items closed);
        keeps = close_keeps calls old.marks.items ks old.roots.items root old.waiting.items
            old.closed s done new.marks.items closed;
        less = less (count_by is_new new.marks.items) (count_by is_new old.marks.items)
            (length new.waiting.items) (length old.waiting.items) (length new.roots.items)
            (length old.roots.items) most marks.fewer (ap length h.waiting) (ap length h.roots);
      }
    where
      less : (n o w v r q m : ℕ) → n ≤ o → w ≡ v → r ≡ q →
          n * (m + 2) + (w + r) ≤ o * (m + 2) + (v + q)
      less n o w v r q m le e f = let more = mul-le-mul_right (m + 2) le in
          omega (arith, more, e, f)
