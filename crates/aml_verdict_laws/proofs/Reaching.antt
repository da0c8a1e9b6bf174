-- Whether a chain of calls leads from one method to another, where all that are called are among some.
use Rattle.std.proofs.Common.{◌≡◌, ◌≤◌, ℕ, zero, suc, List, [], ◌∷◌, length, refl, sym, subst, arith}
use Rattle.std.proofs.lemmas.Bool.{or_parts, eqb-true}
use Rattle.std.specs.List.{list_any}
use Rattle.std.specs.Prelude.{Bool, true, false, ◌==◌, ◌||◌}
use Rattle.aml_calls.specs.Chains.{end_of, has_cycle, is_among, IsChain, Reaches, TellsReach}
use Rattle.aml_calls.proofs.Among.{among_cases, first_among, neither, no_more, not_both, or_left, or_right, rest_among, same_number}
use Rattle.aml_calls.proofs.ChainLaws.{reaches_itself}
use Rattle.aml_verdict_laws.specs.Laws.{CallAmong, ReachIsTold}

-- one of a list for which a test holds
record Holds (p : ℕ → Bool) (ks : List ℕ) : Type 0 where
  one : ℕ
  among : is_among one ks ≡ true
  holds : p one ≡ true

one_holds : (p : ℕ → Bool) (ks : List ℕ) → list_any p ks ≡ true → Holds p ks
one_holds p [] e = absurd cc
one_holds p (k ∷ ks) e = by (p k) refl e (λ f. one_holds p ks f)
  where
    by : (b : Bool) → p k ≡ b → (b || list_any p ks) ≡ true → (list_any p ks ≡ true → Holds p ks) → Holds p (k ∷ ks)
    by true f g again = record { one = k; among = first_among k ks; holds = f }
    by false f g again = let h = again g in record { one = h.one; among = rest_among h.one k ks h.among; holds = h.holds }

any_among : (p : ℕ → Bool) (j : ℕ) (ks : List ℕ) → is_among j ks ≡ true → p j ≡ true → list_any p ks ≡ true
any_among p j [] e h = absurd cc
any_among p j (k ∷ ks) e h =
    among_cases (list_any p (k ∷ ks) ≡ true) j k ks e
    (λ same. or_left (p k) (list_any p ks) (subst (λ i. p i ≡ true) same h))
    (λ f. or_right (p k) (list_any p ks) (any_among p j ks f h))

module _ (calls : ℕ → List ℕ) where
  -- whether a chain of at most so many calls leads there
  reaches_in : ℕ → ℕ → ℕ → Bool
  reaches_in zero from to = from == to
  reaches_in (suc d) from to = (from == to) || list_any (λ j. reaches_in d j to) (calls from)

  same_reached : (from to : ℕ) → (from == to) ≡ true → Reaches calls from to
  same_reached from to e = subst (λ k. Reaches calls from k) (eqb-true from to e) (reaches_itself calls from)

  first_call : (from j to : ℕ) → is_among j (calls from) ≡ true → Reaches calls j to → Reaches calls from to
  first_call from j to e r = record { behind = j ∷ r.behind; chain = (e, r.chain); ends = r.ends }

  -- where the search says so, one does
  led : (d from to : ℕ) → reaches_in d from to ≡ true → Reaches calls from to
  unfolding reaches_in
  led zero from to e = same_reached from to e
  led (suc d) from to e = by (from == to) refl e (λ j f. led d j to f)
    where
      by : (b : Bool) → (from == to) ≡ b → (b || list_any (λ j. reaches_in d j to) (calls from)) ≡ true → ((j : ℕ) → reaches_in d j to ≡ true → Reaches calls j to) → Reaches calls from to
      by true f g behind = same_reached from to f
      by false f g behind =
          let h = one_holds (λ j. reaches_in d j to) (calls from) g in
          first_call from h.one to h.among (behind h.one h.holds)

  -- a chain of so many calls is found
  found : (d from : ℕ) (ks : List ℕ) → IsChain calls (from ∷ ks) → length ks ≤ d → reaches_in d from (end_of from ks) ≡ true
  unfolding reaches_in
  found zero from [] c le = same_number from
  found zero from (j ∷ js) c le = absurd (omega arith)
  found (suc d) from [] c le = or_left (from == from) (list_any (λ j. reaches_in d j from) (calls from)) (same_number from)
  found (suc d) from (j ∷ js) c le =
      or_right (from == end_of j js) (list_any (λ i. reaches_in d i (end_of j js)) (calls from))
      (any_among (λ i. reaches_in d i (end_of j js)) j (calls from) c.0 (found d j js c.1 (omega (arith, le))))

  -- a chain with the same ends in which no method comes twice
  record Straight (from to : ℕ) : Type 0 where
    behind : List ℕ
    chain : IsChain calls (from ∷ behind)
    ends : end_of from behind ≡ to
    once : has_cycle (from ∷ behind) ≡ false

  -- it goes on from any of its methods
  straight_from : (k j : ℕ) (js : List ℕ) → IsChain calls (j ∷ js) → has_cycle (j ∷ js) ≡ false → is_among k (j ∷ js) ≡ true → Straight k (end_of j js)
  straight_from k j [] c once e =
      among_cases (Straight k j) k j [] e
      (λ same. subst (λ i. Straight i j) (sym same) (record { behind = []; chain = c; ends = refl; once = once }))
      (λ f. absurd cc)
  straight_from k j (i ∷ is) c once e =
      among_cases (Straight k (end_of i is)) k j (i ∷ is) e
      (λ same. subst (λ n. Straight n (end_of i is)) (sym same) (record { behind = i ∷ is; chain = c; ends = refl; once = once }))
      (λ f. straight_from k i is c.1 (or_parts (is_among j (i ∷ is)) (has_cycle (i ∷ is)) once).1 f)

  straight : (k : ℕ) (ks : List ℕ) → IsChain calls (k ∷ ks) → Straight k (end_of k ks)
  straight k [] c = record { behind = []; chain = c; ends = refl; once = refl }
  straight k (j ∷ js) c = let s = straight j js c.1 in by s (is_among k (j ∷ s.behind)) refl
    where
      by : (s : Straight j (end_of j js)) (b : Bool) → is_among k (j ∷ s.behind) ≡ b → Straight k (end_of j js)
      by s true e = subst (λ n. Straight k n) s.ends (straight_from k j s.behind s.chain s.once e)
      by s false e = record {
        behind = j ∷ s.behind;
        chain = (c.0, s.chain);
        ends = s.ends;
        once = neither (is_among k (j ∷ s.behind)) (has_cycle (j ∷ s.behind)) e s.once;
      }

  module _ (us : List ℕ) (among : CallAmong calls us) where
    -- all of a chain but its first is called
    inside : (k : ℕ) (ks : List ℕ) → IsChain calls (k ∷ ks) → (j : ℕ) → is_among j ks ≡ true → is_among j us ≡ true
    inside k [] c j e = absurd cc
    inside k (i ∷ is) c j e =
        among_cases (is_among j us ≡ true) j i is e
        (λ same. subst (λ n. is_among n us ≡ true) (sym same) (among k i c.0))
        (λ f. inside i is c.1 j f)

    -- so chains of as many calls are enough
    enough : (from to : ℕ) → Reaches calls from to → reaches_in (length us) from to ≡ true
    enough from to r =
        subst (λ n. reaches_in (length us) from n ≡ true) r.ends
        (let s = straight from r.behind r.chain in
        subst (λ n. reaches_in (length us) from n ≡ true) s.ends
        (found (length us) from s.behind s.chain
        (no_more s.behind us (or_parts (is_among from s.behind) (has_cycle s.behind) s.once).1 (inside from s.behind s.chain))))

    told : (from to : ℕ) (b : Bool) → reaches_in (length us) from to ≡ b → TellsReach calls from to b
    told from to true e = led (length us) from to e
    told from to false e = λ r. not_both (reaches_in (length us) from to) (enough from to r) e

pub reach_is_told : ReachIsTold
reach_is_told calls us among = record {
  reaches = reaches_in calls (length us);
  tells = λ from to. told calls us among from to (reaches_in calls (length us) from to) refl;
}
