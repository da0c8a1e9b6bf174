-- How a search for components goes on: what it knows stays so.
use Rattle.std.proofs.Common.{◌≡◌, ◌<◌, ◌≤◌, ℕ, List, [], ◌∷◌, ◌++◌, length, refl, sym, ap, ◌∙◌, subst, arith, inl, inr, Some, length-append}
use Rattle.std.proofs.Math.ListN.{set}
use Rattle.std.proofs.lemmas.Bool.Decides.{leb_tells}
use Rattle.std.proofs.lemmas.List.{append-nil, length-set}
use Rattle.std.proofs.lemmas.Option.{slice_get_within}
use Rattle.std.specs.Prelude.{Bool, true, false, ◌&&◌, slice_get, nat_le}
use Rattle.aml_paths.specs.declared.scope.ObjectId.{ObjectId}
use Rattle.aml_calls.specs.Chains.{end_of, is_among, IsChain, Reaches}
use Rattle.aml_calls.specs.Pairs.{numbers}
use Rattle.aml_calls.proofs.Among.{among_cases, among_front, among_last, is_false, not_both}
use Rattle.aml_calls.proofs.ChainLaws.{reaches_itself, reaches_more}
use Rattle.aml_calls.proofs.Searching.{same_or_other}
use Rattle.aml_components.specs.declared.search.Call.{Call}
use Rattle.aml_components.specs.declared.search.Mark.{Mark}
use Rattle.aml_components.specs.declared.search.Mark.TheVariants.{Closed, New, Open}
use Rattle.aml_components.specs.Search.{Caller, callers, calls_from, is_at_most, is_new, IsCut, IsSearch, Keeps, Leads, LeadsTo, mark_at, waits}
use Rattle.aml_components.proofs.Marking.{closed_below, closed_not_new, closed_not_open, leads_to, mark_other, mark_same, open_not_new, same_place}
use Rattle.aml_components.proofs.Rising.{at_cases, at_end, at_front, either_part, rising_push}
use Rattle.aml_components.proofs.Waiting.{called_by, from_waits, in_turn_more, in_turn_without, waits_cases, waits_from, waits_front, waits_back, waits_with, waits_without}

-- chains behind one another
pub reaches_then : (calls : ℕ → List ℕ) (i k j : ℕ) → Reaches calls i k → Reaches calls k j →
    Reaches calls i j
reaches_then calls i k j r t = subst (λ n. Reaches calls i n) t.ends (go k t.behind r t.chain)
  where
    go : (k : ℕ) (ks : List ℕ) → Reaches calls i k → IsChain calls (k ∷ ks) →
        Reaches calls i (end_of k ks)
    go k [] r c = r
    go k (j ∷ js) r c = go j js (reaches_more calls i k j r c.0) c.1

module _ (calls : ℕ → List ℕ) (marks : List Mark) (opened roots : List ℕ) (waiting : List Call)
    (closed : ℕ) (s : IsSearch calls marks opened roots waiting closed) where
  place_below : (k p : ℕ) → mark_at marks k ≡ Open p → p < length opened
  place_below k p e = slice_get_within opened p k (s.stands k p e)

  caller_below : (p : ℕ) → is_among p (callers waiting) ≡ true → p < length opened
  caller_below p e = let j = called_by waiting p e in
      let c = s.caller p j.0 j.1 in place_below c.caller p c.stands

  -- a method is begun behind all that are open, which reach it
  module _ (k : ℕ) (row : List ObjectId) (callees : numbers row ≡ calls k) (lt : k < length marks)
      (new : mark_at marks k ≡ New) (there : (i p : ℕ) → mark_at marks i ≡ Open p →
      Reaches calls i k) where
    abbrev pub here : ℕ
    here = length opened

    abbrev pub now : List Mark
    now = set marks k (Open here)

    kept : (i : ℕ) (m : Mark) → mark_at marks i ≡ m → (m ≡ New → ⊥) → mark_at now i ≡ m
    kept i m e old =
        mark_other marks k i (Open here) (λ same. old (sym e ∙ ap (mark_at marks) same ∙ new)) ∙ e

    -- a mark behind that is the new one, or was there
    was : (P : Type 0) (i : ℕ) (m : Mark) → mark_at now i ≡ m → (i ≡ k → m ≡ Open here → P) →
        (mark_at marks i ≡ m → P) → P
    was P i m e this other = same_or_other P i k
        (λ same. this same (sym e ∙ ap (mark_at now) same ∙ mark_same marks k (Open here) lt))
        (λ apart. other (sym (mark_other marks k i (Open here) apart) ∙ e))

    was_open : (P : Type 0) (i p : ℕ) → mark_at now i ≡ Open p → (i ≡ k → p ≡ here → P) →
        (mark_at marks i ≡ Open p → P) → P
    was_open P i p e this other =
        was P i (Open p) e (λ same f. this same (same_place (Open p) p here refl f)) other

    was_closed : (i n : ℕ) → mark_at now i ≡ Closed n → mark_at marks i ≡ Closed n
    was_closed i n e =
        was (mark_at marks i ≡ Closed n) i (Closed n) e
        (λ same f. absurd (closed_not_open (Closed n) n here refl f)) (λ f. f)

    fewer : (p q : ℕ) → Leads (roots ++ here ∷ []) p q → Leads roots p q
    fewer p q l r e le = l r (among_front r roots (here ∷ []) e) le

    more : (p q : ℕ) → p < here → Leads roots p q → Leads (roots ++ here ∷ []) p q
    more p q below l r e le = either_part (r ≤ q) r roots (here ∷ []) e (λ f. l r f le)
        (λ f. among_cases (r ≤ q) r here [] f (λ same. absurd (omega (arith, same, below, le)))
        (λ g. absurd cc))

    begin_caller : (p j : ℕ) → waits (waiting ++ calls_from here row) p j ≡ true →
        Caller calls now p j
    begin_caller p j e = waits_cases (Caller calls now p j) waiting (calls_from here row) p j e
        (λ f. let c = s.caller p j f in
        record {
          caller = c.caller;
          stands = kept c.caller (Open p) c.stands (open_not_new (Open p) p refl);
          called = c.called;
        })
        (λ f. let h = from_waits here row p j f in record {
          caller = k;
          stands = mark_same marks k (Open here) lt ∙ ap Open h.0;
          called = subst (λ ks. is_among j ks ≡ true) callees h.1;
        })

    begin_reach : (i j p q : ℕ) → mark_at now i ≡ Open p → mark_at now j ≡ Open q →
        Leads (roots ++ here ∷ []) p q → Reaches calls i j
    begin_reach i j p q e f l = was_open (Reaches calls i j) i p e
        (λ same at. was_open (Reaches calls i j) j q f
        (λ same' at'. subst (λ n. Reaches calls i n) (same ∙ sym same') (reaches_itself calls i))
        (λ g. let below = place_below j q g in
        let le = l here (among_last here roots) (omega (arith, at)) in
        absurd (omega (arith, below, le))))
        (λ g. was_open (Reaches calls i j) j q f
        (λ same' at'. subst (λ n. Reaches calls i n) (sym same') (there i p g))
        (λ h. s.reach i j p q g h (fewer p q l)))

    begin_passed : (i j p : ℕ) → mark_at now i ≡ Open p → is_among j (calls i) ≡ true →
        waits (waiting ++ calls_from here row) p j ≡ false →
        LeadsTo (roots ++ here ∷ []) p (mark_at now j)
    begin_passed i j p e called away =
        was_open (LeadsTo (roots ++ here ∷ []) p (mark_at now j)) i p e
        (λ same at. absurd (not_both (waits (waiting ++ calls_from here row) p j)
        (subst (λ n. waits (waiting ++ calls_from here row) n j ≡ true) (sym at)
        (waits_back waiting (calls_from here row) here j
        (waits_from here row j
        (subst (λ ks. is_among j ks ≡ true) (sym callees)
        (subst (λ n. is_among j (calls n) ≡ true) same called)))))
        away))
        (λ f. old f
        (s.passed i j p f called
        (is_false (waits waiting p j)
        (λ g. not_both (waits (waiting ++ calls_from here row) p j)
        (waits_front waiting (calls_from here row) p j g) away))))
      where
        old : mark_at marks i ≡ Open p → LeadsTo roots p (mark_at marks j) →
            LeadsTo (roots ++ here ∷ []) p (mark_at now j)
        old f l = subst (LeadsTo (roots ++ here ∷ []) p)
            (sym (kept j (mark_at marks j) refl (λ g. subst (LeadsTo roots p) g l)))
            (leads_to roots (roots ++ here ∷ []) p (mark_at marks j)
            (λ q g. more p q (place_below i p f)) l)

    begin_falls : (i j n : ℕ) → mark_at now i ≡ Closed n → is_among j (calls i) ≡ true →
        is_at_most n (mark_at now j) ≡ true
    begin_falls i j n e called =
        let low = s.falls i j n (was_closed i n e) called in
        let h = closed_below n (mark_at marks j) low in
        ap (is_at_most n)
        (kept j (mark_at marks j) refl (closed_not_new (mark_at marks j) h.number h.closed))
        ∙ low

    pub begin : IsSearch calls now (opened ++ k ∷ []) (roots ++ here ∷ [])
        (waiting ++ calls_from here row) closed
    begin = record {
      room = λ i j e. let below = s.room i j e in let same = length-set marks k (Open here) in
          omega (arith, below, same);
      stands = λ i p e. was_open (slice_get (opened ++ k ∷ []) p ≡ Some i) i p e
          (λ same at. subst (λ n. slice_get (opened ++ k ∷ []) n ≡ Some i) (sym at)
          (subst (λ n. slice_get (opened ++ k ∷ []) here ≡ Some n) (sym same)
          (at_end opened k)))
          (λ f. at_front opened (k ∷ []) p i (s.stands i p f));
      marked = λ i p e. at_cases (mark_at now i ≡ Open p) opened k p i e
          (λ f. kept i (Open p) (s.marked i p f) (open_not_new (Open p) p refl))
          (λ at same. ap (mark_at now) same ∙ mark_same marks k (Open here) lt ∙ ap Open (sym at));
      rooted = λ some. elim (leb_tells 1 here) [
        | inl e ↦ among_front 0 roots (here ∷ []) (s.rooted e.1)
        | inr e ↦ (let none : here ≡ 0 = omega (arith, e.1) in
            subst (λ n. is_among 0 (roots ++ n ∷ []) ≡ true) (sym none) (among_last 0 roots))
      ];
      within = λ r e. let long = length-append opened (k ∷ []) in
          either_part (r ≤ length (opened ++ k ∷ [])) r roots (here ∷ []) e
          (λ f. let le = s.within r f in omega (arith, le, long))
          (λ f. among_cases (r ≤ length (opened ++ k ∷ [])) r here [] f
          (λ same. omega (arith, same, long)) (λ g. absurd cc));
      rising = rising_push roots here s.rising s.within;
      in_turn = in_turn_more waiting here row s.in_turn (λ p e.
          let below = caller_below p e in omega (arith, below));
      caller = begin_caller;
      reach = begin_reach;
      passed = begin_passed;
      below = λ i n e. s.below i n (was_closed i n e);
      together = λ i j n e f. s.together i j n (was_closed i n e) (was_closed j n f);
      falls = begin_falls;
    }

    pub begin_keeps : Keeps marks now
    begin_keeps = record {
      sized = length-set marks k (Open here);
      begun = λ i e.
          ap is_new (kept i (mark_at marks i) refl (λ f. absurd (
          let clash : false ≡ true = sym e ∙ ap is_new f in cc))) ∙ e;
    }

  -- the roots behind a place are cut off, to which a method calls that all roots stand at or before
  module _ (c j q : ℕ) (others : List ℕ) (by : Caller calls marks c j) (last : (r : ℕ) →
      is_among r roots ≡ true → r ≤ c) (at : mark_at marks j ≡ Open q)
      (h : IsCut roots q others) where
    cut_has : (r : ℕ) → is_among r roots ≡ true → r ≤ q → is_among r others ≡ true
    cut_has r e le =
        h.are r ∙ two (is_among r roots) (nat_le r q) e
        (elim (leb_tells r q) [
          | inl f ↦ f.0
          | inr f ↦ absurd (let lt = f.1 in omega (arith, lt, le))
        ])
      where
        two : (a b : Bool) → a ≡ true → b ≡ true → (a && b) ≡ true
        two true b f g = g
        two false b f g = absurd cc

    cut_had : (r : ℕ) → is_among r others ≡ true → is_among r roots ≡ true
    cut_had r e = first (is_among r roots) (nat_le r q) (sym (h.are r) ∙ e)
      where
        first : (a b : Bool) → (a && b) ≡ true → a ≡ true
        first true b f = refl
        first false b f = f

    cut_low : (r : ℕ) → is_among r others ≡ true → r ≤ q
    cut_low r e = second (is_among r roots) (sym (h.are r) ∙ e)
      where
        second : (a : Bool) → (a && nat_le r q) ≡ true → r ≤ q
        second true f =
            elim (leb_tells r q) [
              | inl g ↦ g.1
              | inr g ↦ absurd (let clash : true ≡ false = sym f ∙ g.0 in cc)
            ]
        second false f = absurd cc

    cut_reach : (i k p t : ℕ) → mark_at marks i ≡ Open p → mark_at marks k ≡ Open t →
        Leads others p t → Reaches calls i k
    cut_reach i k p t e f l = elim (leb_tells p q) [
      | inl g ↦ s.reach i k p t e f
          (λ r among le. l r (cut_has r among (let low = g.1 in omega (arith, le, low))) le)
      | inr g ↦ (let behind = g.1 in reaches_then calls i j k
          (reaches_more calls i by.caller j
          (s.reach i by.caller p c e by.stands (λ r among le. last r among)) by.called)
          (s.reach j k q t at f
          (λ r among le. l r (cut_has r among le) (omega (arith, le, behind)))))
    ]

    pub cut : IsSearch calls marks opened others waiting closed
    cut = record {
      room = s.room;
      stands = s.stands;
      marked = s.marked;
      rooted = λ some. cut_has 0 (s.rooted some) (omega arith);
      within = λ r e. s.within r (cut_had r e);
      rising = h.rising;
      in_turn = s.in_turn;
      caller = s.caller;
      reach = cut_reach;
      passed = λ i k p e called away.
          leads_to roots others p (mark_at marks k) (λ t f l r among le. l r (cut_had r among) le)
          (s.passed i k p e called away);
      below = s.below;
      together = s.together;
      falls = s.falls;
    }

    pub cut_leads : LeadsTo others c (mark_at marks j)
    cut_leads = subst (LeadsTo others c) (sym at) (λ r e le. cut_low r e)

-- a call was looked at
pub looked : (calls : ℕ → List ℕ) (marks : List Mark) (opened roots : List ℕ) (us vs : List Call)
    (closed : ℕ) (c : Call) → IsSearch calls marks opened roots (us ++ c ∷ vs) closed →
    LeadsTo roots c.from (mark_at marks c.to.0) →
    IsSearch calls marks opened roots (us ++ vs) closed
looked calls marks opened roots us vs closed c s leads = record {
  room = s.room;
  stands = s.stands;
  marked = s.marked;
  rooted = s.rooted;
  within = s.within;
  rising = s.rising;
  in_turn = in_turn_without us vs c s.in_turn;
  caller = λ p j e. s.caller p j (waits_with us vs c p j e);
  reach = s.reach;
  passed = λ i j p e called away. by i j p e called away (waits (us ++ c ∷ vs) p j) refl;
  below = s.below;
  together = s.together;
  falls = s.falls;
}
  where
    by : (i j p : ℕ) → mark_at marks i ≡ Open p → is_among j (calls i) ≡ true →
        waits (us ++ vs) p j ≡ false → (b : Bool) → waits (us ++ c ∷ vs) p j ≡ b →
        LeadsTo roots p (mark_at marks j)
    by i j p e called away true f = waits_without (LeadsTo roots p (mark_at marks j)) us vs c p j f
        (λ from to. subst (λ n. LeadsTo roots n (mark_at marks j)) from
        (subst (λ n. LeadsTo roots c.from (mark_at marks n)) to leads))
        (λ g. absurd (not_both (waits (us ++ vs) p j) g away))
    by i j p e called away false f = s.passed i j p e called f

pub looked_last : (calls : ℕ → List ℕ) (marks : List Mark) (opened roots : List ℕ) (us : List Call)
    (closed : ℕ) (c : Call) → IsSearch calls marks opened roots (us ++ c ∷ []) closed →
    LeadsTo roots c.from (mark_at marks c.to.0) → IsSearch calls marks opened roots us closed
looked_last calls marks opened roots us closed c s leads =
    subst (λ cs. IsSearch calls marks opened roots cs closed) (append-nil us)
    (looked calls marks opened roots us [] closed c s leads)
