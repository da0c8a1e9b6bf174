-- A search at its end, and what its marks tell.
use Rattle.std.proofs.Common.{◌≡◌, ◌<◌, ℕ, List, [], ◌∷◌, length, refl, sym, ap, ◌∙◌, subst, arith, Some}
use Rattle.std.proofs.lemmas.Bool.{eqb-true}
use Rattle.std.specs.Prelude.{Bool, true, false, ◌==◌, slice_get}
use Rattle.aml_calls.specs.Chains.{is_among, Reaches}
use Rattle.aml_calls.specs.Pairs.{AnswersReach, calls_in, named, Pair}
use Rattle.aml_calls.proofs.Among.{not_both, same_number}
use Rattle.aml_calls.proofs.ChainLaws.{reached_inside, reaches_itself, reaches_more}
use Rattle.aml_components.specs.declared.components.Components.{Components}
use Rattle.aml_components.specs.declared.search.Call.{Call}
use Rattle.aml_components.specs.declared.search.Mark.{Mark}
use Rattle.aml_components.specs.declared.search.Mark.TheVariants.{Closed, New, Open}
use Rattle.aml_components.specs.Components.{are_one, are_together, AreComponents}
use Rattle.aml_components.specs.Search.{AreFound, is_at_most, is_new, IsSearch, mark_at}
use Rattle.aml_components.proofs.Marking.{at_most_closed, closed_below, ClosedBelow, mark_cases, not_new, one_number}
use Rattle.aml_components.proofs.Raising.{calls_none}

-- without roots none is open
pub none_opened : (calls : ℕ → List ℕ) (marks : List Mark) (opened roots : List ℕ)
    (waiting : List Call) (closed : ℕ) → roots ≡ [] →
    IsSearch calls marks opened roots waiting closed → (k p : ℕ) → mark_at marks k ≡ Open p → ⊥
none_opened calls marks opened roots waiting closed ended s k p e =
    nowhere opened (s.stands k p e)
    (λ some. subst (λ ks. is_among 0 ks ≡ true) ended (s.rooted some))
  where
    nowhere : (ks : List ℕ) → slice_get ks p ≡ Some k → (0 < length ks → is_among 0 [] ≡ true) → ⊥
    nowhere [] f g = absurd cc
    nowhere (x ∷ xs) f g = absurd (let clash : false ≡ true = g (omega arith) in cc)

pub found : (calls : ℕ → List ℕ) (room : ℕ) (marks : List Mark) (opened roots : List ℕ)
    (waiting : List Call) (closed : ℕ) → roots ≡ [] →
    IsSearch calls marks opened roots waiting closed →
    ((k : ℕ) → k < room → is_new (mark_at marks k) ≡ false) → AreFound calls room marks
found calls room marks opened roots waiting closed ended s begun = record {
  closed = begun;
  none_open = none_opened calls marks opened roots waiting closed ended s;
  together = s.together;
  falls = s.falls;
}

-- what the components of a search of all tell
module _ (ps : List Pair) (room : ℕ) (inside : (k : ℕ) → is_among k (named ps) ≡ true →
    k < room) (c : Components) (h : AreFound (calls_in ps) room c.marks.items) where
  abbrev pub calls : ℕ → List ℕ
  calls = calls_in ps

  abbrev pub mark : ℕ → Mark
  mark k = mark_at c.marks.items k

  one_closed : (n m : ℕ) (a b : Mark) (same : Bool) → a ≡ Closed n → b ≡ Closed m →
      are_one a b same ≡ (n == m)
  one_closed n m a b same e f = ap (λ x. are_one x b same) e ∙ ap (λ x. are_one (Closed n) x same) f

  one_new : (a b : Mark) (same : Bool) → a ≡ New → are_one a b same ≡ same
  one_new a b same e = ap (λ x. are_one x b same) e

  new_second : (n : ℕ) (a b : Mark) (same : Bool) → a ≡ Closed n → b ≡ New → are_one a b same ≡ same
  new_second n a b same e f = ap (λ x. are_one x b same) e ∙ ap (λ x. are_one (Closed n) x same) f

  -- a new method calls none, and reaches itself alone
  alone : (i j : ℕ) → mark i ≡ New → Reaches calls i j → j ≡ i
  alone i j e r =
      eqb-true j i
      (reached_inside calls (λ k. k == i)
      (λ k n f called. absurd (calls_nothing k n (eqb-true k i f) called)) i j (same_number i) r)
    where
      calls_nothing : (k n : ℕ) → k ≡ i → is_among n (calls k) ≡ true → ⊥
      calls_nothing k n same called =
          not_both (is_among n []) (subst (λ ks. is_among n ks ≡ true) (ap calls same
          ∙ calls_none ps i (unnamed (is_among i (named ps)) refl)) called) refl
        where
          unnamed : (b : Bool) → is_among i (named ps) ≡ b → is_among i (named ps) ≡ false
          unnamed true f = absurd (not_new (mark i) (h.closed i (inside i f)) e)
          unnamed false f = f

  itself : (i j : ℕ) → i ≡ j → Reaches calls i j × Reaches calls j i
  itself i j e =
      subst (λ n. Reaches calls i n × Reaches calls n i) e
      (reaches_itself calls i, reaches_itself calls i)

  reach : (i j : ℕ) → are_together c i j ≡ true → Reaches calls i j × Reaches calls j i
  reach i j e = mark_cases (Reaches calls i j × Reaches calls j i) (mark i)
      (λ f. itself i j (eqb-true i j (sym (one_new (mark i) (mark j) (i == j) f) ∙ e)))
      (λ p f. absurd (h.none_open i p f))
      (λ n f. mark_cases (Reaches calls i j × Reaches calls j i) (mark j)
      (λ g. itself i j (eqb-true i j (sym (new_second n (mark i) (mark j) (i == j) f g) ∙ e)))
      (λ p g. absurd (h.none_open j p g))
      (λ m g. both n m f g (eqb-true n m (sym (one_closed n m (mark i) (mark j) (i == j) f g)
      ∙ e))))
    where
      both : (n m : ℕ) → mark i ≡ Closed n → mark j ≡ Closed m → n ≡ m →
          Reaches calls i j × Reaches calls j i
      both n m f g same = let at : mark j ≡ Closed n = g ∙ ap Closed (sym same) in
          (h.together i j n f at, h.together j i n at f)

  -- along a chain numbers never rise
  low : (i j n : ℕ) → mark i ≡ Closed n → Reaches calls i j → is_at_most n (mark j) ≡ true
  low i j n e r =
      reached_inside calls (λ k. is_at_most n (mark k))
      (λ k t f called. next k t (closed_below n (mark k) f) called) i j
      (at_most_closed n n (mark i) e (omega arith)) r
    where
      next : (k t : ℕ) → ClosedBelow n (mark k) → is_among t (calls k) ≡ true →
          is_at_most n (mark t) ≡ true
      next k t b called =
          let d = closed_below b.number (mark t) (h.falls k t b.number b.closed called) in
          at_most_closed n d.number (mark t) d.closed (let le = d.low in
          let le' = b.low in omega (arith, le, le'))

  together : (i j : ℕ) → Reaches calls i j → Reaches calls j i → are_together c i j ≡ true
  together i j r t = mark_cases (are_together c i j ≡ true) (mark i)
      (λ f. one_new (mark i) (mark j) (i == j) f ∙ ap (λ n. i == n) (alone i j f r) ∙ same_number i)
      (λ p f. absurd (h.none_open i p f))
      (λ n f. by n f (closed_below n (mark j) (low i j n f r)))
    where
      by : (n : ℕ) → mark i ≡ Closed n → ClosedBelow n (mark j) → are_together c i j ≡ true
      by n f b =
          let d = closed_below b.number (mark i) (low j i b.number b.closed t) in
          let same : d.number ≡ n = one_number (mark i) d.number n d.closed f in
          let le = b.low in
          let le' = d.low in
          let one : b.number ≡ n = omega (arith, le, le', same) in
          one_closed n b.number (mark i) (mark j) (i == j) f b.closed ∙ ap (λ m. n == m) one
          ∙ same_number n

  returns : (k j : ℕ) → is_among j (calls k) ≡ true → AnswersReach ps j k (are_together c j k)
  returns k j called = by (are_together c j k) refl
    where
      by : (b : Bool) → are_together c j k ≡ b → AnswersReach ps j k b
      by true e = (reach j k e).0
      by false e =
          λ r. not_both (are_together c j k)
          (together j k r (reaches_more calls k k j (reaches_itself calls k) called)) e

  pub are_components : AreComponents ps c
  are_components = record { reach = reach; together = together; returns = returns }
