-- The last component of a search is closed.
use Rattle.std.proofs.Common.{◌≡◌, ◌<◌, ◌≤◌, ◌+◌, ℕ, List, [], ◌∷◌, ◌++◌, length, take, drop, refl, sym, ap, ◌∙◌, subst, arith, inl, inr}
use Rattle.std.proofs.lemmas.Bool.Decides.{leb_tells}
use Rattle.std.proofs.lemmas.List.{length-take-le}
use Rattle.std.specs.Prelude.{Bool, true, false, if◌then◌else◌}
use Rattle.aml_calls.specs.Chains.{is_among, Reaches}
use Rattle.aml_calls.proofs.Among.{among_back, among_cases, among_front, first_among, is_false, not_both}
use Rattle.aml_components.specs.declared.search.Call.{Call}
use Rattle.aml_components.specs.declared.search.Mark.{Mark}
use Rattle.aml_components.specs.declared.search.Mark.TheVariants.{Closed, Open}
use Rattle.aml_components.specs.Search.{AreClosed, callers, is_at_most, is_new, IsSearch, Keeps, Leads, LeadsTo, mark_at, waits}
use Rattle.aml_components.proofs.Marking.{at_most_closed, closed_below, closed_not_open, leads_open, mark_cases, one_number, same_place}
use Rattle.aml_components.proofs.Rising.{among_drop, at_most_last, at_take, drop_at, either_part, split, Stands, take_at}
use Rattle.aml_components.proofs.Waiting.{caller_of}

module _ (calls : ℕ → List ℕ) (marks : List Mark) (opened front : List ℕ) (root : ℕ)
    (waiting : List Call) (closed : ℕ)
    (s : IsSearch calls marks opened (front ++ root ∷ []) waiting closed) (done : (p : ℕ) →
    is_among p (callers waiting) ≡ true → p < root) (now : List Mark)
    (h : AreClosed (drop root opened) closed marks now) where
  abbrev pub roots : List ℕ
  roots = front ++ root ∷ []

  root_within : root ≤ length opened
  root_within = s.within root (among_back root front (root ∷ []) (first_among root []))

  -- a root at most a place in the last component is at most any of its places
  inner : (p q : ℕ) → root ≤ q → Leads roots p q
  inner p q le r e low = let most = at_most_last front root r s.rising e in omega (arith, most, le)

  closes : (k p : ℕ) → mark_at marks k ≡ Open p → root ≤ p → mark_at now k ≡ Closed closed
  closes k p e le =
      h.are k ∙ ap (λ b. if b then Closed closed else mark_at marks k)
      (among_drop root opened p k (s.stands k p e) le)

  -- a mark that is no open one behind the root stays
  stays : (k : ℕ) (m : Mark) → mark_at marks k ≡ m → ((p : ℕ) → m ≡ Open p → p < root) →
      mark_at now k ≡ m
  stays k m e low =
      h.are k ∙ ap (λ b. if b then Closed closed else mark_at marks k)
      (is_false (is_among k (drop root opened)) (λ f. out (drop_at root opened k f))) ∙ e
    where
      out : Stands opened root k → ⊥
      out t = let lt = low t.place (sym e ∙ s.marked k t.place t.at) in
          let le = t.behind in absurd (omega (arith, lt, le))

  was_open : (k p : ℕ) → mark_at now k ≡ Open p → (mark_at marks k ≡ Open p) × (p < root)
  was_open k p e = by (is_among k (drop root opened)) refl
    where
      by : (b : Bool) → is_among k (drop root opened) ≡ b → (mark_at marks k ≡ Open p) × (p < root)
      by true f =
          absurd (closed_not_open (mark_at now k) closed p (h.are k
          ∙ ap (λ b. if b then Closed closed else mark_at marks k) f) e)
      by false f =
          let old : mark_at marks k ≡ Open p =
          sym (h.are k ∙ ap (λ b. if b then Closed closed else mark_at marks k) f) ∙ e in (
            old,
            elim (leb_tells root p) [
              | inl g ↦ absurd
                  (not_both (is_among k (drop root opened))
                  (among_drop root opened p k (s.stands k p old) g.1) f)
              | inr g ↦ g.1
            ],
          )

  -- what is closed was closed, or stood in the last component
  was_closed : (P : Type 0) (k n : ℕ) → mark_at now k ≡ Closed n →
      (mark_at marks k ≡ Closed n → P) →
      ((p : ℕ) → mark_at marks k ≡ Open p → root ≤ p → n ≡ closed → P) → P
  was_closed P k n e old fresh = by (is_among k (drop root opened)) refl
    where
      by : (b : Bool) → is_among k (drop root opened) ≡ b → P
      by true f =
          let t = drop_at root opened k f in
          fresh t.place (s.marked k t.place t.at) t.behind
          (one_number (mark_at now k) n closed e (h.are k
          ∙ ap (λ b. if b then Closed closed else mark_at marks k) f))
      by false f =
          old (sym (h.are k ∙ ap (λ b. if b then Closed closed else mark_at marks k) f) ∙ e)

  kept_closed : (k n : ℕ) → mark_at marks k ≡ Closed n → mark_at now k ≡ Closed n
  kept_closed k n e = stays k (Closed n) e (λ p f. absurd (closed_not_open (Closed n) n p refl f))

  kept_open : (k p : ℕ) → mark_at marks k ≡ Open p → p < root → mark_at now k ≡ Open p
  kept_open k p e lt =
      stays k (Open p) e (λ q f. let same = same_place (Open p) p q refl f in
      omega (arith, same, lt))

  more : (p q : ℕ) → p < root → Leads front p q → Leads roots p q
  more p q lt l r e le = either_part (r ≤ q) r front (root ∷ []) e (λ f. l r f le)
      (λ f. among_cases (r ≤ q) r root [] f (λ same. absurd (omega (arith, same, lt, le)))
      (λ g. absurd cc))

  fewer : (p q : ℕ) → Leads roots p q → Leads front p q
  fewer p q l r e le = l r (among_front r front (root ∷ []) e) le

  close_passed : (i j p : ℕ) → mark_at now i ≡ Open p → is_among j (calls i) ≡ true →
      waits waiting p j ≡ false → LeadsTo front p (mark_at now j)
  close_passed i j p e called away = by (s.passed i j p (was_open i p e).0 called away)
    where
      by : LeadsTo roots p (mark_at marks j) → LeadsTo front p (mark_at now j)
      by l = mark_cases (LeadsTo front p (mark_at now j)) (mark_at marks j)
          (λ f. absurd (subst (LeadsTo roots p) f l))
          (λ q f. elim (leb_tells root q) [
            | inl g ↦ subst (LeadsTo front p) (sym (closes j q f g.1)) tt
            | inr g ↦ subst (LeadsTo front p) (sym (kept_open j q f g.1))
                (fewer p q (leads_open roots p q (mark_at marks j) f l))
          ])
          (λ n f. subst (LeadsTo front p) (sym (kept_closed j n f)) tt)

  close_together : (i j n : ℕ) → mark_at now i ≡ Closed n → mark_at now j ≡ Closed n →
      Reaches calls i j
  close_together i j n e f = was_closed (Reaches calls i j) i n e
      (λ old. was_closed (Reaches calls i j) j n f (λ old'. s.together i j n old old')
      (λ q at le same. absurd (let lt = s.below i n old in omega (arith, lt, same))))
      (λ p at le same. was_closed (Reaches calls i j) j n f
      (λ old'. absurd (let lt = s.below j n old' in omega (arith, lt, same)))
      (λ q at' le' same'. s.reach i j p q at at' (inner p q le')))

  close_falls : (i j n : ℕ) → mark_at now i ≡ Closed n → is_among j (calls i) ≡ true →
      is_at_most n (mark_at now j) ≡ true
  close_falls i j n e called = was_closed (is_at_most n (mark_at now j) ≡ true) i n e
      (λ old. let low = closed_below n (mark_at marks j) (s.falls i j n old called) in
      at_most_closed n low.number (mark_at now j) (kept_closed j low.number low.closed) low.low)
      (λ p at le same.
      fresh p at le same (s.passed i j p at called (is_false (waits waiting p j) (λ f.
      let lt = done p (caller_of waiting p j f) in absurd (omega (arith, lt, le))))))
    where
      fresh : (p : ℕ) → mark_at marks i ≡ Open p → root ≤ p → n ≡ closed →
          LeadsTo roots p (mark_at marks j) → is_at_most n (mark_at now j) ≡ true
      fresh p at le same l = mark_cases (is_at_most n (mark_at now j) ≡ true) (mark_at marks j)
          (λ f. absurd (subst (LeadsTo roots p) f l))
          (λ q f. at_most_closed n closed (mark_at now j)
          (closes j q f
          (leads_open roots p q (mark_at marks j) f l root
          (among_back root front (root ∷ []) (first_among root [])) le)) (omega (arith, same)))
          (λ m f. at_most_closed n m (mark_at now j) (kept_closed j m f) (
          let lt = s.below j m f in omega (arith, lt, same)))

  pub close : IsSearch calls now (take root opened) front waiting (closed + 1)
  close = record {
    room = λ i j e. let below = s.room i j e in let same = h.sized in omega (arith, below, same);
    stands = λ k p e.
        let was = was_open k p e in take_at root opened p k was.1 (s.stands k p was.0);
    marked = λ k p e. let t = at_take root opened p k e in kept_open k p (s.marked k p t.1) t.0;
    rooted = λ some.
        let long = length-take-le root opened root_within in
        either_part (is_among 0 front ≡ true) 0 front (root ∷ []) (s.rooted (
        let le = root_within in omega (arith, some, long, le)))
        (λ e. e)
        (λ e. among_cases (is_among 0 front ≡ true) 0 root [] e
        (λ same. absurd (omega (arith, same, some, long))) (λ g. absurd cc));
    within = λ r e. let long = length-take-le root opened root_within in
        let le = at_most_last front root r s.rising (among_front r front (root ∷ []) e) in
        omega (arith, long, le);
    rising = (split front (root ∷ []) s.rising).first;
    in_turn = s.in_turn;
    caller = λ p j e. let c = s.caller p j e in
        record {
          caller = c.caller;
          stands = kept_open c.caller p c.stands (done p (caller_of waiting p j e));
          called = c.called;
        };
    reach = λ i j p q e f l.
        let was = was_open i p e in s.reach i j p q was.0 (was_open j q f).0 (more p q was.1 l);
    passed = close_passed;
    below = λ k n e. was_closed (n < closed + 1) k n e (λ old.
        let lt = s.below k n old in omega (arith, lt)) (λ p at le same. omega (arith, same));
    together = close_together;
    falls = close_falls;
  }

  old : (b : Bool) (k : ℕ) → is_new (mark_at marks k) ≡ false →
      is_new (if b then Closed closed else mark_at marks k) ≡ false
  old true k e = refl
  old false k e = e

  pub close_keeps : Keeps marks now
  close_keeps = record {
    sized = h.sized;
    begun = λ k e. ap is_new (h.are k) ∙ old (is_among k (drop root opened)) k e;
  }
