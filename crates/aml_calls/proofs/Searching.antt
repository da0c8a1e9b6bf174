-- How a search along calls goes on: what it knows stays so.
use Rattle.std.proofs.Common.{◌≡◌, ◌≢◌, ◌<◌, ◌≤◌, ℕ, List, [], ◌∷◌, ◌++◌, length, take, get_or, refl, sym, ap, ◌∙◌, subst, arith, length-append}
use Rattle.std.proofs.Math.ListN.{set}
use Rattle.std.proofs.lemmas.List.{get_or-set_same, get_or-set_other, length-set}
use Rattle.std.proofs.lemmas.Bool.Decides.{eqb_tells}
use Rattle.std.specs.Prelude.{Bool, true, false, ◌||◌}
use Rattle.std.proofs.Common.{inl, inr}
use Rattle.aml_calls.specs.declared.order.Mark.{Mark}
use Rattle.aml_calls.specs.declared.order.Mark.TheVariants.{New, Begun, Placed}
use Rattle.aml_calls.specs.Chains.{has_cycle, is_among, IsChain}
use Rattle.aml_calls.specs.Search.{all_placed, IsSearch, is_new, is_placed, Keeps, left, mark_at, WasLeft}
use Rattle.aml_calls.proofs.Among.{among_all, among_append, among_back, among_cases, among_front, among_last, append_cases, first_among, is_false, neither, not_both, twice_front, twice_push}
use Rattle.aml_calls.proofs.ChainLaws.{ordered_push}
use Rattle.aml_calls.proofs.Marks.{mark_other, mark_same, new_less, new_same, placed_stays}

-- a list of numbers but the last
pub same_or_other : (P : Type 0) (j k : ℕ) → (j ≡ k → P) → (j ≢ k → P) → P
same_or_other P j k same other = elim (eqb_tells j k) [ inl e ↦ same e.1 | inr e ↦ other e.1 ]

new_is_none : (m n : Mark) → m ≡ New → n ≡ Begun → m ≡ n → ⊥
new_is_none m n e f g = cc

module _ (calls : ℕ → List ℕ) where
  chain_front : (ks : List ℕ) (k : ℕ) → IsChain calls (ks ++ k ∷ []) → IsChain calls ks
  chain_front [] k c = tt
  chain_front (j ∷ []) k c = (tt, tt)
  chain_front (j ∷ i ∷ is) k c = (c.0, chain_front (i ∷ is) k c.1)

  chain_end : (ks : List ℕ) (k j : ℕ) → IsChain calls (ks ++ k ∷ []) → is_among j (calls k) ≡ true → IsChain calls ((ks ++ k ∷ []) ++ j ∷ [])
  chain_end [] k j c e = (e, (tt, tt))
  chain_end (i ∷ []) k j c e = (c.0, (e, (tt, tt)))
  chain_end (i ∷ h ∷ hs) k j c e = (c.0, chain_end (h ∷ hs) k j c.1 e)

  record Next (ks : List ℕ) (k : ℕ) : Type 0 where
    next : ℕ
    called : is_among next (calls k) ≡ true
    among : is_among next ks ≡ true

  -- each on a chain but the last calls one on it
  next_along : (ks : List ℕ) (j k : ℕ) → IsChain calls (ks ++ j ∷ []) → is_among k ks ≡ true → Next (ks ++ j ∷ []) k
  next_along [] j k c e = absurd cc
  next_along (i ∷ []) j k c e = among_cases (Next (i ∷ j ∷ []) k) k i [] e
      (λ same. subst (λ n. Next (i ∷ j ∷ []) n) (sym same) (record { next = j; called = c.0; among = among_back j (i ∷ []) (j ∷ []) (first_among j []) }))
      (λ f. absurd cc)
  next_along (i ∷ h ∷ hs) j k c e = among_cases (Next (i ∷ h ∷ (hs ++ j ∷ [])) k) k i (h ∷ hs) e
      (λ same. subst (λ n. Next (i ∷ h ∷ (hs ++ j ∷ [])) n) (sym same) (record { next = h; called = c.0; among = among_back h (i ∷ []) (h ∷ (hs ++ j ∷ [])) (first_among h (hs ++ j ∷ [])) }))
      (λ f. let n = next_along (h ∷ hs) j k c.1 f in record { next = n.next; called = n.called; among = among_back n.next (i ∷ []) (h ∷ (hs ++ j ∷ [])) n.among })

  module _ (all : List ℕ) (marks : List Mark) (passed ordered path : List ℕ) (k : ℕ) (s : IsSearch calls all marks passed (path ++ k ∷ []) ordered) where
    begun_last : mark_at marks k ≡ Begun
    begun_last = s.on_path k (among_last k path)

    not_new_last : is_new (mark_at marks k) ≡ false
    not_new_last = ap is_new begun_last

    pub inside_last : is_among k all ≡ true
    inside_last = s.only k not_new_last

    pub below_last : k < length marks
    below_last = s.room k inside_last

    apart_path : (has_cycle path ≡ false) × (is_among k path ≡ false)
    apart_path = twice_front k path s.once

    -- the last of the path goes into the order, where its callees stand there
    place_stays : (j : ℕ) → is_placed (mark_at marks j) ≡ true → is_placed (mark_at (set marks k Placed) j) ≡ true
    place_stays j e = same_or_other (is_placed (mark_at (set marks k Placed) j) ≡ true) j k
        (λ same. subst (λ i. is_placed (mark_at (set marks k Placed) i) ≡ true) (sym same) (ap is_placed (mark_same marks k Placed below_last)))
        (λ other. ap is_placed (mark_other marks k j Placed other) ∙ e)

    place_left : (j : ℕ) → mark_at (set marks k Placed) j ≡ Begun → is_among j path ≡ false → WasLeft calls (set marks k Placed) path j
    place_left j begun away = same_or_other (WasLeft calls (set marks k Placed) path j) j k
        (λ same. absurd (let placed : mark_at (set marks k Placed) j ≡ Placed = subst (λ i. mark_at (set marks k Placed) i ≡ Placed) (sym same) (mark_same marks k Placed below_last) in let clash : Begun ≡ Placed = sym begun ∙ placed in cc))
        (λ other. go other (s.was_left j (sym (mark_other marks k j Placed other) ∙ begun) (among_append j path (k ∷ []) ∙ neither (is_among j path) (is_among j (k ∷ [])) away (is_false (is_among j (k ∷ [])) (λ e. among_cases ⊥ j k [] e other (λ f. absurd cc))))))
      where
        go : j ≢ k → WasLeft calls marks (path ++ k ∷ []) j → WasLeft calls (set marks k Placed) path j
        go other w =
            let apart : w.next ≢ k = λ same. not_both (is_among w.next (path ++ k ∷ [])) (subst (λ i. is_among i (path ++ k ∷ []) ≡ true) (sym same) (among_last k path)) w.away in
            record {
              next = w.next;
              called = w.called;
              begun = mark_other marks k w.next Placed apart ∙ w.begun;
              away = is_false (is_among w.next path) (λ e. not_both (is_among w.next (path ++ k ∷ [])) (among_front w.next path (k ∷ []) e) w.away);
            }

    not_ordered : is_among k ordered ≡ false
    not_ordered = sym (s.placed k) ∙ ap is_placed begun_last

    pub place : all_placed marks (calls k) ≡ true → IsSearch calls all (set marks k Placed) passed path (ordered ++ k ∷ [])
    place full = record {
      sized = s.sized ∙ sym (length-set marks k Placed);
      room = λ j e. let lt = s.room j e in let same = length-set marks k Placed in omega (arith, lt, same);
      only = λ j e. same_or_other (is_among j all ≡ true) j k (λ same. subst (λ i. is_among i all ≡ true) (sym same) inside_last) (λ other. s.only j (sym (ap is_new (mark_other marks k j Placed other)) ∙ e));
      on_path = λ j e.
          let other : j ≢ k = λ same. not_both (is_among k path) (subst (λ i. is_among i path ≡ true) same e) apart_path.1 in
          mark_other marks k j Placed other ∙ s.on_path j (among_front j path (k ∷ []) e);
      once = apart_path.0;
      chain = chain_front path k s.chain;
      was_left = place_left;
      behind = ordered_push calls [] ordered k s.behind (λ j e. in_order j (among_all (λ i. is_placed (mark_at marks i)) j (calls k) e full)) not_ordered refl;
      placed = λ j. same_or_other (is_placed (mark_at (set marks k Placed) j) ≡ is_among j (ordered ++ k ∷ [])) j k
          (λ same. subst (λ i. is_placed (mark_at (set marks k Placed) i) ≡ is_among i (ordered ++ k ∷ [])) (sym same) (ap is_placed (mark_same marks k Placed below_last) ∙ sym (among_last k ordered)))
          (λ other. ap is_placed (mark_other marks k j Placed other) ∙ s.placed j ∙ sym (not_last j ordered other));
      passes = λ j. placed_stays marks (set marks k Placed) place_stays (take (get_or passed j 0) (calls j)) (s.passes j);
    }
      where
        in_order : (j : ℕ) → is_placed (mark_at marks j) ≡ true → (is_among j ordered || is_among j []) ≡ true
        in_order j e = by (is_among j ordered) (sym (s.placed j) ∙ e)
          where
            by : (b : Bool) → b ≡ true → (b || false) ≡ true
            by true f = refl
            by false f = f

        not_last : (j : ℕ) (ks : List ℕ) → j ≢ k → is_among j (ks ++ k ∷ []) ≡ is_among j ks
        not_last j ks other = among_append j ks (k ∷ []) ∙ by (is_among j ks) (is_among j (k ∷ [])) (is_false (is_among j (k ∷ [])) (λ e. among_cases ⊥ j k [] e other (λ f. absurd cc)))
          where
            by : (p q : Bool) → q ≡ false → (p || q) ≡ p
            by true q e = refl
            by false q e = e

    pub place_keeps : Keeps marks (set marks k Placed)
    place_keeps = record {
      sized = length-set marks k Placed;
      begun = λ j e. same_or_other (is_new (mark_at (set marks k Placed) j) ≡ false) j k
          (λ same. subst (λ i. is_new (mark_at (set marks k Placed) i) ≡ false) (sym same) (ap is_new (mark_same marks k Placed below_last)))
          (λ other. ap is_new (mark_other marks k j Placed other) ∙ e);
    }

    pub place_less : left (set marks k Placed) path ≤ left marks path
    place_less = let e = new_same marks k Placed below_last not_new_last refl in omega (arith, e)

    -- where the path leads into what was begun, all on it is left
    pub leave : (c : ℕ) → is_among c (calls k) ≡ true → mark_at marks c ≡ Begun → IsSearch calls all marks passed [] ordered
    leave c called begun = record {
      sized = s.sized;
      room = s.room;
      only = s.only;
      on_path = λ j e. absurd cc;
      once = refl;
      chain = tt;
      was_left = λ j e away. by j e (is_among j (path ++ k ∷ [])) refl;
      behind = s.behind;
      placed = s.placed;
      passes = s.passes;
    }
      where
        begun_along : (i : ℕ) → is_among i ((path ++ k ∷ []) ++ c ∷ []) ≡ true → mark_at marks i ≡ Begun
        begun_along i e = append_cases (mark_at marks i ≡ Begun) i c (path ++ k ∷ []) e (λ f. s.on_path i f) (λ same. subst (λ n. mark_at marks n ≡ Begun) (sym same) begun)

        by : (j : ℕ) → mark_at marks j ≡ Begun → (b : Bool) → is_among j (path ++ k ∷ []) ≡ b → WasLeft calls marks [] j
        by j e true f =
            let n = next_along (path ++ k ∷ []) c j (chain_end path k c s.chain called) f in
            record { next = n.next; called = n.called; begun = begun_along n.next n.among; away = refl }
        by j e false f = let w = s.was_left j e f in record { next = w.next; called = w.called; begun = w.begun; away = refl }

    -- a new callee of the last is on the path behind it
    module _ (c next : ℕ) (called : is_among c (calls k) ≡ true) (inside : is_among c all ≡ true) (new : mark_at marks c ≡ New) where
      below_callee : c < length marks
      below_callee = s.room c inside

      not_begun : (j : ℕ) → mark_at marks j ≡ Begun → j ≢ c
      not_begun j e same = let f : mark_at marks j ≡ New = subst (λ i. mark_at marks i ≡ New) (sym same) new in let clash : Begun ≡ New = sym e ∙ f in cc

      off_path : is_among c (path ++ k ∷ []) ≡ false
      off_path = is_false (is_among c (path ++ k ∷ [])) (λ e. not_begun c (s.on_path c e) refl)

      begin_placed : (j : ℕ) → is_placed (mark_at (set marks c Begun) j) ≡ is_placed (mark_at marks j)
      begin_placed j = same_or_other (is_placed (mark_at (set marks c Begun) j) ≡ is_placed (mark_at marks j)) j c
          (λ same. subst (λ i. is_placed (mark_at (set marks c Begun) i) ≡ is_placed (mark_at marks i)) (sym same) (ap is_placed (mark_same marks c Begun below_callee) ∙ sym (ap is_placed new)))
          (λ other. ap is_placed (mark_other marks c j Begun other))

      begin_left : (j : ℕ) → mark_at (set marks c Begun) j ≡ Begun → is_among j ((path ++ k ∷ []) ++ c ∷ []) ≡ false → WasLeft calls (set marks c Begun) ((path ++ k ∷ []) ++ c ∷ []) j
      begin_left j begun away =
          let other : j ≢ c = λ same. not_both (is_among j ((path ++ k ∷ []) ++ c ∷ [])) (subst (λ i. is_among i ((path ++ k ∷ []) ++ c ∷ []) ≡ true) (sym same) (among_last c (path ++ k ∷ []))) away in
          let w = s.was_left j (sym (mark_other marks c j Begun other) ∙ begun) (is_false (is_among j (path ++ k ∷ [])) (λ e. not_both (is_among j ((path ++ k ∷ []) ++ c ∷ [])) (among_front j (path ++ k ∷ []) (c ∷ []) e) away)) in
          record {
            next = w.next;
            called = w.called;
            begun = mark_other marks c w.next Begun (not_begun w.next w.begun) ∙ w.begun;
            away = is_false (is_among w.next ((path ++ k ∷ []) ++ c ∷ [])) (λ e. append_cases ⊥ w.next c (path ++ k ∷ []) e (λ f. not_both (is_among w.next (path ++ k ∷ [])) f w.away) (not_begun w.next w.begun));
          }

      pub begin : all_placed marks (take next (calls k)) ≡ true → IsSearch calls all (set marks c Begun) (set passed k next) ((path ++ k ∷ []) ++ c ∷ []) ordered
      begin full = record {
        sized = length-set passed k next ∙ s.sized ∙ sym (length-set marks c Begun);
        room = λ j e. let lt = s.room j e in let same = length-set marks c Begun in omega (arith, lt, same);
        only = λ j e. same_or_other (is_among j all ≡ true) j c (λ same. subst (λ i. is_among i all ≡ true) (sym same) inside) (λ other. s.only j (sym (ap is_new (mark_other marks c j Begun other)) ∙ e));
        on_path = λ j e. append_cases (mark_at (set marks c Begun) j ≡ Begun) j c (path ++ k ∷ []) e
            (λ f. mark_other marks c j Begun (not_begun j (s.on_path j f)) ∙ s.on_path j f)
            (λ same. subst (λ i. mark_at (set marks c Begun) i ≡ Begun) (sym same) (mark_same marks c Begun below_callee));
        once = twice_push c (path ++ k ∷ []) s.once off_path;
        chain = chain_end path k c s.chain called;
        was_left = begin_left;
        behind = s.behind;
        placed = λ j. begin_placed j ∙ s.placed j;
        passes = λ j. placed_stays marks (set marks c Begun) (λ i e. begin_placed i ∙ e) (take (get_or (set passed k next) j 0) (calls j)) (same_or_other (all_placed marks (take (get_or (set passed k next) j 0) (calls j)) ≡ true) j k
            (λ same. subst (λ i. all_placed marks (take (get_or (set passed k next) i 0) (calls i)) ≡ true) (sym same) (ap (λ n. all_placed marks (take n (calls k))) (get_or-set_same passed k next 0 below_passed) ∙ full))
            (λ other. ap (λ n. all_placed marks (take n (calls j))) (get_or-set_other passed k j next 0 other) ∙ s.passes j));
      }
        where
          below_passed : k < length passed
          below_passed = let lt = below_last in let same = s.sized in omega (arith, lt, same)

      pub begin_keeps : Keeps marks (set marks c Begun)
      begin_keeps = record {
        sized = length-set marks c Begun;
        begun = λ j e. same_or_other (is_new (mark_at (set marks c Begun) j) ≡ false) j c
            (λ same. subst (λ i. is_new (mark_at (set marks c Begun) i) ≡ false) (sym same) (ap is_new (mark_same marks c Begun below_callee)))
            (λ other. ap is_new (mark_other marks c j Begun other) ∙ e);
      }

      pub begin_less : left (set marks c Begun) ((path ++ k ∷ []) ++ c ∷ []) ≤ left marks path
      begin_less =
          let e = new_less marks c Begun below_callee new refl in
          let one = length-append path (k ∷ []) in
          let two = length-append (path ++ k ∷ []) (c ∷ []) in
          omega (arith, e, one, two)

  -- a search that has ended begins anew with another method
  module _ (all : List ℕ) (marks : List Mark) (passed ordered : List ℕ) (c : ℕ) (s : IsSearch calls all marks passed [] ordered) (inside : is_among c all ≡ true) (new : mark_at marks c ≡ New) where
    not_first : (j : ℕ) → mark_at marks j ≡ Begun → j ≢ c
    not_first j e same = let f : mark_at marks j ≡ New = subst (λ i. mark_at marks i ≡ New) (sym same) new in let clash : Begun ≡ New = sym e ∙ f in cc

    first_placed : (j : ℕ) → is_placed (mark_at (set marks c Begun) j) ≡ is_placed (mark_at marks j)
    first_placed j = same_or_other (is_placed (mark_at (set marks c Begun) j) ≡ is_placed (mark_at marks j)) j c
        (λ same. subst (λ i. is_placed (mark_at (set marks c Begun) i) ≡ is_placed (mark_at marks i)) (sym same) (ap is_placed (mark_same marks c Begun (s.room c inside)) ∙ sym (ap is_placed new)))
        (λ other. ap is_placed (mark_other marks c j Begun other))

    pub first : IsSearch calls all (set marks c Begun) passed (c ∷ []) ordered
    first = record {
      sized = s.sized ∙ sym (length-set marks c Begun);
      room = λ j e. let lt = s.room j e in let same = length-set marks c Begun in omega (arith, lt, same);
      only = λ j e. same_or_other (is_among j all ≡ true) j c (λ same. subst (λ i. is_among i all ≡ true) (sym same) inside) (λ other. s.only j (sym (ap is_new (mark_other marks c j Begun other)) ∙ e));
      on_path = λ j e. among_cases (mark_at (set marks c Begun) j ≡ Begun) j c [] e (λ same. subst (λ i. mark_at (set marks c Begun) i ≡ Begun) (sym same) (mark_same marks c Begun (s.room c inside))) (λ f. absurd cc);
      once = refl;
      chain = (tt, tt);
      was_left = λ j begun away.
          let other : j ≢ c = λ same. not_both (is_among j (c ∷ [])) (subst (λ i. is_among i (c ∷ []) ≡ true) (sym same) (first_among c [])) away in
          let w = s.was_left j (sym (mark_other marks c j Begun other) ∙ begun) refl in
          record {
            next = w.next;
            called = w.called;
            begun = mark_other marks c w.next Begun (not_first w.next w.begun) ∙ w.begun;
            away = is_false (is_among w.next (c ∷ [])) (λ e. among_cases ⊥ w.next c [] e (not_first w.next w.begun) (λ f. absurd cc));
          };
      behind = s.behind;
      placed = λ j. first_placed j ∙ s.placed j;
      passes = λ j. placed_stays marks (set marks c Begun) (λ i e. first_placed i ∙ e) (take (get_or passed j 0) (calls j)) (s.passes j);
    }

    pub first_keeps : Keeps marks (set marks c Begun)
    first_keeps = record {
      sized = length-set marks c Begun;
      begun = λ j e. same_or_other (is_new (mark_at (set marks c Begun) j) ≡ false) j c
          (λ same. subst (λ i. is_new (mark_at (set marks c Begun) i) ≡ false) (sym same) (ap is_new (mark_same marks c Begun (s.room c inside))))
          (λ other. ap is_new (mark_other marks c j Begun other) ∙ e);
    }

pub keeps_same : (marks : List Mark) → Keeps marks marks
keeps_same marks = record { sized = refl; begun = λ k e. e }

pub keeps_then : (a b c : List Mark) → Keeps a b → Keeps b c → Keeps a c
keeps_then a b c h g = record { sized = g.sized ∙ h.sized; begun = λ k e. g.begun k (h.begun k e) }
