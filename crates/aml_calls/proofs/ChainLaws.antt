-- Chains of methods: how long they are, where they have cycles, and where they lead.
use Rattle.std.proofs.Common.{◌≡◌, ◌≤◌, ℕ, zero, suc, List, [], ◌∷◌, ◌++◌, length, refl, sym, ap, subst, arith}
use Rattle.std.proofs.lemmas.Bool.{or_parts}
use Rattle.std.specs.List.{list_all}
use Rattle.std.specs.Prelude.{Bool, true, false, ◌==◌, ◌||◌}
use Rattle.aml_calls.specs.Chains.{ChainsAreCounted, Cycles, end_of, has_cycle, is_among, IsBehindCallees, IsChain, is_short, NeverCycles, Reaches}
use Rattle.aml_calls.proofs.Among.{all_among, among_all, among_cases, first_among, is_false, neither, no_more, not_both, one_fails, or_right, rest_among}

module _ (calls : ℕ → List ℕ) where
  no_longer : (d k : ℕ) (ks : List ℕ) → is_short calls d k ≡ true → IsChain calls (k ∷ ks) → length (k ∷ ks) ≤ d
  unfolding is_short
  no_longer zero k ks e c = absurd cc
  no_longer (suc d) k [] e c = omega arith
  no_longer (suc d) k (j ∷ js) e c = let le = no_longer d j js (among_all (is_short calls d) j (calls k) c.0 e) c.1 in omega (arith, le)

  longer : (d k : ℕ) → is_short calls d k ≡ false → (ks : List ℕ) × (IsChain calls (k ∷ ks) × (length (k ∷ ks) ≡ suc d))
  unfolding is_short
  longer zero k e = ([], ((tt, tt), refl))
  longer (suc d) k e =
      let f = one_fails (is_short calls d) (calls k) e in
      let c = longer d f.one f.fails in
      (f.one ∷ c.0, ((f.among, c.1.0), ap suc c.1.1))

  -- what is short is short with more
  pub short_up : (d k : ℕ) → is_short calls d k ≡ true → is_short calls (suc d) k ≡ true
  unfolding is_short
  short_up zero k e = absurd cc
  short_up (suc d) k e = all_among (is_short calls (suc d)) (calls k) (λ j among. short_up d j (among_all (is_short calls d) j (calls k) among e))

  -- and so is what it calls
  pub next_short : (d k j : ℕ) → is_short calls d k ≡ true → is_among j (calls k) ≡ true → is_short calls d j ≡ true
  unfolding is_short
  next_short zero k j e among = absurd cc
  next_short (suc d) k j e among = short_up d j (among_all (is_short calls d) j (calls k) among e)

  -- all along a chain
  along : (d j : ℕ) (js : List ℕ) (k : ℕ) → is_short calls d j ≡ true → IsChain calls (j ∷ js) → is_among k (j ∷ js) ≡ true → is_short calls d k ≡ true
  along d j [] k e c among = among_cases (is_short calls d k ≡ true) k j [] among (λ same. subst (λ i. is_short calls d i ≡ true) (sym same) e) (λ f. absurd cc)
  along d j (i ∷ is) k e c among =
      among_cases (is_short calls d k ≡ true) k j (i ∷ is) among (λ same. subst (λ n. is_short calls d n ≡ true) (sym same) e)
      (λ f. along d i is k (next_short d j i e c.0) c.1 f)

  returns : (d k : ℕ) (ks : List ℕ) → is_short calls d k ≡ true → IsChain calls (k ∷ ks) → is_among k ks ≡ true → ⊥
  unfolding is_short
  returns zero k ks e c among = absurd cc
  returns (suc d) k [] e c among = absurd cc
  returns (suc d) k (j ∷ js) e c among = returns d k (j ∷ js) (along d j js k (among_all (is_short calls d) j (calls k) c.0 e) c.1 among) c among

  no_cycle : (d k : ℕ) (ks : List ℕ) → is_short calls d k ≡ true → IsChain calls (k ∷ ks) → has_cycle (k ∷ ks) ≡ false
  no_cycle d k [] e c = refl
  no_cycle d k (j ∷ js) e c = neither (is_among k (j ∷ js)) (has_cycle (j ∷ js)) (is_false (is_among k (j ∷ js)) (λ among. returns d k (j ∷ js) e c among)) (no_cycle d j js (next_short d k j e c.0) c.1)

  -- methods that stand behind those that they call: no chain from one of them has a cycle
  record Settled (done : List ℕ) : Type 0 where
    within : (k : ℕ) → is_among k done ≡ true → list_all (λ j. is_among j done) (calls k) ≡ true
    never : (k : ℕ) → is_among k done ≡ true → NeverCycles calls k

  stays : (done : List ℕ) → Settled done → (j : ℕ) (js : List ℕ) (k : ℕ) → is_among j done ≡ true → IsChain calls (j ∷ js) → is_among k (j ∷ js) ≡ true → is_among k done ≡ true
  stays done h j [] k e c among = among_cases (is_among k done ≡ true) k j [] among (λ same. subst (λ i. is_among i done ≡ true) (sym same) e) (λ f. absurd cc)
  stays done h j (i ∷ is) k e c among =
      among_cases (is_among k done ≡ true) k j (i ∷ is) among (λ same. subst (λ n. is_among n done ≡ true) (sym same) e)
      (λ f. stays done h i is k (among_all (λ n. is_among n done) i (calls j) c.0 (h.within j e)) c.1 f)

  -- one more behind those that it calls has no cycle either
  never_more : (done : List ℕ) (k : ℕ) → Settled done → list_all (λ j. is_among j done) (calls k) ≡ true → is_among k done ≡ false → NeverCycles calls k
  never_more done k h all out = record { never = by }
    where
      by : (ks : List ℕ) → IsChain calls (k ∷ ks) → has_cycle (k ∷ ks) ≡ false
      by [] c = refl
      by (j ∷ js) c =
          let inside = among_all (λ n. is_among n done) j (calls k) c.0 all in
          neither (is_among k (j ∷ js)) (has_cycle (j ∷ js)) (is_false (is_among k (j ∷ js)) (λ among. not_both (is_among k done) (stays done h j js k inside c.1 among) out)) ((h.never j inside).never js c.1)

  settled_more : (done : List ℕ) (k : ℕ) → Settled done → list_all (λ j. is_among j done) (calls k) ≡ true → is_among k done ≡ false → Settled (k ∷ done)
  settled_more done k h all out = record {
    within = λ j among. among_cases (list_all (λ i. is_among i (k ∷ done)) (calls j) ≡ true) j k done among
        (λ same. subst (λ n. list_all (λ i. is_among i (k ∷ done)) (calls n) ≡ true) (sym same) (more (calls k) all))
        (λ f. more (calls j) (h.within j f));
    never = λ j among. among_cases (NeverCycles calls j) j k done among (λ same. subst (λ n. NeverCycles calls n) (sym same) (never_more done k h all out)) (λ f. h.never j f);
  }
    where
      more : (ks : List ℕ) → list_all (λ i. is_among i done) ks ≡ true → list_all (λ i. is_among i (k ∷ done)) ks ≡ true
      more ks e = all_among (λ i. is_among i (k ∷ done)) ks (λ i among. rest_among i k done (among_all (λ n. is_among n done) i ks among e))

  ordered_never : (done ks : List ℕ) → Settled done → IsBehindCallees calls done ks → (k : ℕ) → is_among k ks ≡ true → NeverCycles calls k
  ordered_never done [] h ordered k among = absurd cc
  ordered_never done (j ∷ js) h ordered k among =
      let more = settled_more done j h ordered.0 ordered.1 in
      among_cases (NeverCycles calls k) k j js among (λ same. subst (λ n. NeverCycles calls n) (sym same) (more.never j (first_among j done))) (λ f. ordered_never (j ∷ done) js more ordered.2 k f)

  -- from a method that stands behind its callees no chain has a cycle
  pub never_cycles : (ks : List ℕ) → IsBehindCallees calls [] ks → (k : ℕ) → is_among k ks ≡ true → NeverCycles calls k
  never_cycles ks ordered = ordered_never [] ks (record { within = λ k e. absurd cc; never = λ k e. absurd cc }) ordered

  -- one more method at the end
  pub ordered_push : (done ks : List ℕ) (k : ℕ) → IsBehindCallees calls done ks → ((j : ℕ) → is_among j (calls k) ≡ true → (is_among j ks || is_among j done) ≡ true) → is_among k ks ≡ false → is_among k done ≡ false → IsBehindCallees calls done (ks ++ k ∷ [])
  ordered_push done [] k h all out away = (all_among (λ j. is_among j done) (calls k) all, away, tt)
  ordered_push done (x ∷ xs) k h all out away =
      let apart = or_parts (k == x) (is_among k xs) out in
      (h.0, h.1, ordered_push (x ∷ done) xs k h.2 (λ j among. moved (j == x) (is_among j xs) (is_among j done) (all j among)) apart.1 (neither (k == x) (is_among k done) apart.0 away))
    where
      moved : (p q r : Bool) → ((p || q) || r) ≡ true → (q || (p || r)) ≡ true
      moved true q r e = or_right q true refl
      moved false q r e = e

  -- where each of some methods calls one of them, a chain has a cycle
  pub record Goes (us : List ℕ) (k : ℕ) : Type 0 where
    pub next : ℕ
    pub called : is_among next (calls k) ≡ true
    pub inside : is_among next us ≡ true

  record Walk (us : List ℕ) (n k : ℕ) : Type 0 where
    behind : List ℕ
    chain : IsChain calls (k ∷ behind)
    long : length behind ≡ n
    inside : (j : ℕ) → is_among j (k ∷ behind) ≡ true → is_among j us ≡ true

  module _ (us : List ℕ) (goes : (k : ℕ) → is_among k us ≡ true → Goes us k) where
    walk : (n k : ℕ) → is_among k us ≡ true → Walk us n k
    walk zero k e = record { behind = []; chain = (tt, tt); long = refl; inside = λ j among. among_cases (is_among j us ≡ true) j k [] among (λ same. subst (λ i. is_among i us ≡ true) (sym same) e) (λ f. absurd cc) }
    walk (suc n) k e =
        let g = goes k e in
        let w = walk n g.next g.inside in
        record {
          behind = g.next ∷ w.behind;
          chain = (g.called, w.chain);
          long = ap suc w.long;
          inside = λ j among. among_cases (is_among j us ≡ true) j k (g.next ∷ w.behind) among (λ same. subst (λ i. is_among i us ≡ true) (sym same) e) (λ f. w.inside j f);
        }

    pub cycles : (k : ℕ) → is_among k us ≡ true → Cycles calls k
    cycles k e = let w = walk (length us) k e in by w (has_cycle (k ∷ w.behind)) refl
      where
        by : (w : Walk us (length us) k) (b : Bool) → has_cycle (k ∷ w.behind) ≡ b → Cycles calls k
        by w true twice = record { behind = w.behind; chain = w.chain; twice = twice }
        by w false once = let le = no_more (k ∷ w.behind) us once w.inside in let long = w.long in absurd (omega (arith, le, long))

  -- a chain leads one call further
  chain_push : (k : ℕ) (ks : List ℕ) (j : ℕ) → IsChain calls (k ∷ ks) → is_among j (calls (end_of k ks)) ≡ true → IsChain calls (k ∷ (ks ++ j ∷ [])) × (end_of k (ks ++ j ∷ []) ≡ j)
  chain_push k [] j c e = ((e, (tt, tt)), refl)
  chain_push k (i ∷ is) j c e = let rest = chain_push i is j c.1 e in ((c.0, rest.0), rest.1)

  pub reaches_more : (from k j : ℕ) → Reaches calls from k → is_among j (calls k) ≡ true → Reaches calls from j
  reaches_more from k j r e =
      let further = chain_push from r.behind j r.chain (subst (λ n. is_among j (calls n) ≡ true) (sym r.ends) e) in
      record { behind = r.behind ++ j ∷ []; chain = further.0; ends = further.1 }

  pub reaches_itself : (k : ℕ) → Reaches calls k k
  reaches_itself k = record { behind = []; chain = (tt, tt); ends = refl }

  -- what is reached from methods that call nothing else is one of them
  pub reached_inside : (p : ℕ → Bool) → ((k j : ℕ) → p k ≡ true → is_among j (calls k) ≡ true → p j ≡ true) → (from to : ℕ) → p from ≡ true → Reaches calls from to → p to ≡ true
  reached_inside p h from to e r = subst (λ n. p n ≡ true) r.ends (go from r.behind e r.chain)
    where
      go : (k : ℕ) (ks : List ℕ) → p k ≡ true → IsChain calls (k ∷ ks) → p (end_of k ks) ≡ true
      go k [] f c = f
      go k (j ∷ js) f c = go j js (h k j f c.0) c.1

pub chains_are_counted : ChainsAreCounted
chains_are_counted calls = record {
  no_longer = no_longer calls;
  longer = longer calls;
  no_cycle = λ d k e. record { never = λ ks c. no_cycle calls d k ks e c };
  cycle = λ d k c. is_false (is_short calls d k) (λ short. not_both (has_cycle (k ∷ c.behind)) c.twice (no_cycle calls d k c.behind short c.chain));
}
