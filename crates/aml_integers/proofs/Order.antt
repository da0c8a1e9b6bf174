-- Which methods are integer-only has one answer, which is found in call order.
use Rattle.std.proofs.Common.{◌≡◌, ◌<◌, ℕ, length, zero, suc, List, [], ◌∷◌, Option, Some, None, refl, sym, ap, ◌∙◌, subst}
use Rattle.std.proofs.lemmas.Bool.{or_parts, eqb-true}
use Rattle.std.proofs.lemmas.List.{get_or-set_other, get_or-set_same}
use Rattle.std.proofs.lemmas.Option.{unwrap_or-slice_get}
use Rattle.std.specs.List.{list_all}
use Rattle.std.specs.Prelude.{Bool, true, false, ◌==◌, ◌||◌, ◌&&◌, slice_set}
use Rattle.aml_meaning.specs.Within.{Callee}
use Rattle.aml_calls.specs.Chains.{is_among, is_short, IsBehindCallees}
use Rattle.aml_calls.proofs.Among.{among_all, neither, not_both, same_number}
use Rattle.aml_judged.specs.Integers.{are_integers, AreIntegerOnly, integer_only_by}
use Rattle.aml_judged.specs.Judged.{Accepted}
use Rattle.aml_judged.specs.Verdicts.{AreAccepted, called_from, calls_by, Judging}
use Rattle.aml_judged.proofs.Order.{long_refused}
use Rattle.aml_integers.specs.Laws.{AreDecided, CallsDone, decided, decided_in_order, decided_one, DoneDecides, IntegersAreOne, MarksDecide, OrderDecides}
use Rattle.aml_integers.specs.Known.{marked}
use Rattle.aml_integers.proofs.Alike.{calls_decide}

module _ (all : Judging) where
  by_calls : (only other : ℕ → Bool) (k : ℕ) (a : Option Accepted) (o : Option Callee) → ((j : ℕ) → is_among j (calls_by o) ≡ true → only j ≡ other j) → integer_only_by all only k a o ≡ integer_only_by all other k a o
  by_calls only other k None o h = refl
  by_calls only other k (Some a) None h = refl
  by_calls only other k (Some a) (Some m) h = ap (λ b. are_integers (all.args k) && b) (calls_decide all.methods m all.kinds only other m.body h)

  not_accepted : (only : ℕ → Bool) (k : ℕ) (a : Option Accepted) (o : Option Callee) → a ≡ None → integer_only_by all only k a o ≡ false
  not_accepted only k None o e = refl
  not_accepted only k (Some a) o e = absurd cc

  module _ (known : ℕ → Option Accepted) where
    -- what is decided of a method hangs on its callees alone
    pub decided_by_calls : (only other : ℕ → Bool) (k : ℕ) → ((j : ℕ) → is_among j (called_from all k) ≡ true → only j ≡ other j) → decided all known only k ≡ decided all known other k
    decided_by_calls only other k h = by_calls only other k (known k) (all.methods.callee k) h

    -- a method that is not accepted is not integer-only
    pub refused_is_not : (only : ℕ → Bool) (k : ℕ) → known k ≡ None → decided all known only k ≡ false
    refused_is_not only k e = not_accepted only k (known k) (all.methods.callee k) e

    module _ (a : AreAccepted all known) where
      long_is_none : (k : ℕ) → is_short (called_from all) 64 k ≡ false → known k ≡ None
      long_is_none k e = a.each k ∙ long_refused all known k (all.methods.callee k) e

      -- two answers are the same, by the lengths of chains
      module _ (only other : ℕ → Bool) (p : AreIntegerOnly all known only) (q : AreIntegerOnly all known other) where
        short_same : (d k : ℕ) → is_short (called_from all) d k ≡ true → only k ≡ other k
        unfolding is_short
        short_same zero k e = absurd cc
        short_same (suc d) k e = p.each k ∙ decided_by_calls only other k (λ j among. short_same d j (among_all (is_short (called_from all) d) j (called_from all k) among e)) ∙ sym (q.each k)

        one_same : (k : ℕ) (t : Bool) → is_short (called_from all) 64 k ≡ t → only k ≡ other k
        one_same k true e = short_same 64 k e
        one_same k false e = p.each k ∙ refused_is_not only k (long_is_none k e) ∙ sym (refused_is_not other k (long_is_none k e)) ∙ sym (q.each k)

    kept : (only : ℕ → Bool) (k j : ℕ) → (j == k) ≡ false → only j ≡ decided_one all known only k j
    kept only k j e = rw e refl

    itself : (only : ℕ → Bool) (k : ℕ) → decided_one all known only k k ≡ decided all known only k
    itself only k = rw (same_number k) refl

    away : (done : ℕ → Bool) (k j : ℕ) → done k ≡ false → done j ≡ true → (j == k) ≡ false
    away done k j out there = by (j == k) refl
      where
        by : (t : Bool) → (j == k) ≡ t → t ≡ false
        by false e = refl
        by true e = absurd (let same : j ≡ k = eqb-true j k e in let bad : done j ≡ false = subst (λ i. done i ≡ false) (sym same) out in let clash : true ≡ false = sym there ∙ bad in cc)

    one_more : (done only : ℕ → Bool) (k : ℕ) → AreDecided all known done only → CallsDone all known done k → done k ≡ false → AreDecided all known (λ j. (j == k) || done j) (decided_one all known only k)
    one_more done only k h calls out = record {
      each = λ j there. each_by j (j == k) refl there;
      behind = λ j there. behind_by j (j == k) refl there;
      none = λ j there. none_by j there;
    }
      where
        -- what is decided of a method more, if it is refused, is what was said of it
        stays : (j : ℕ) (t : Bool) → (j == k) ≡ t → known j ≡ None → only j ≡ decided_one all known only k j
        stays j true e refused =
            let same : j ≡ k = eqb-true j k e in
            let no : known k ≡ None = subst (λ i. known i ≡ None) same refused in
            subst (λ i. only i ≡ decided_one all known only k i) (sym same) (h.none k out ∙ sym (refused_is_not only k no) ∙ sym (itself only k))
        stays j false e refused = kept only k j e

        agree_by : (m j : ℕ) (t : Bool) → done j ≡ t → CallsDone all known done m → is_among j (called_from all m) ≡ true → only j ≡ decided_one all known only k j
        agree_by m j true there below among = kept only k j (away done k j out there)
        agree_by m j false there below among = stays j (j == k) refl (below j among there)

        agree : (m : ℕ) → CallsDone all known done m → (j : ℕ) → is_among j (called_from all m) ≡ true → only j ≡ decided_one all known only k j
        agree m below j among = agree_by m j (done j) refl below among

        each_by : (j : ℕ) (t : Bool) → (j == k) ≡ t → (t || done j) ≡ true → decided_one all known only k j ≡ decided all known (decided_one all known only k) j
        each_by j true e there =
            let same : j ≡ k = eqb-true j k e in
            subst (λ i. decided_one all known only k i ≡ decided all known (decided_one all known only k) i) (sym same) (itself only k ∙ decided_by_calls only (decided_one all known only k) k (agree k calls))
        each_by j false e there = sym (kept only k j e) ∙ h.each j there ∙ decided_by_calls only (decided_one all known only k) j (agree j (h.behind j there))

        behind_by : (j : ℕ) (t : Bool) → (j == k) ≡ t → (t || done j) ≡ true → CallsDone all known (λ i. (i == k) || done i) j
        behind_by j true e there = λ i among out_i.
            let same : j ≡ k = eqb-true j k e in
            calls i (subst (λ n. is_among i (called_from all n) ≡ true) same among) (or_parts (i == k) (done i) out_i).1
        behind_by j false e there = λ i among out_i. h.behind j there i among (or_parts (i == k) (done i) out_i).1

        none_by : (j : ℕ) → ((j == k) || done j) ≡ false → decided_one all known only k j ≡ false
        none_by j there = let two = or_parts (j == k) (done j) there in sym (kept only k j two.0) ∙ h.none j two.1

    done_decide : (done only : ℕ → Bool) → AreDecided all known done only → ((k : ℕ) → done k ≡ false → known k ≡ None) → AreIntegerOnly all known only
    done_decide done only h others = record { each = λ k. by k (done k) refl }
      where
        by : (k : ℕ) (t : Bool) → done k ≡ t → only k ≡ integer_only_by all only k (known k) (all.methods.callee k)
        by k true e = h.each k e
        by k false e = h.none k e ∙ sym (refused_is_not only k (others k e))

    among_done : (done : List ℕ) (k : ℕ) → list_all (λ j. is_among j done) (called_from all k) ≡ true → CallsDone all known (λ j. is_among j done) k
    among_done done k inside = λ j among out. absurd (not_both (is_among j done) (among_all (λ i. is_among i done) j (called_from all k) among inside) out)

    in_order : (order : List ℕ) (only : ℕ → Bool) (done : List ℕ) → AreDecided all known (λ j. is_among j done) only → IsBehindCallees (called_from all) done order → ((k : ℕ) → is_among k done ≡ false → is_among k order ≡ false → known k ≡ None) → AreIntegerOnly all known (decided_in_order all known only order)
    in_order [] only done h ordered others = done_decide (λ j. is_among j done) only h (λ k e. others k e refl)
    in_order (k ∷ ks) only done h ordered others =
        in_order ks (decided_one all known only k) (k ∷ done) (one_more (λ j. is_among j done) only k h (among_done done k ordered.0) ordered.1) ordered.2
        (λ j apart out. let two = or_parts (j == k) (is_among j done) apart in others j two.1 (neither (j == k) (is_among j ks) two.0 out))

    -- a mark that is set is what is decided of one method more
    mark_set : (marks : List Bool) (k : ℕ) (mark : Bool) → k < length marks → mark ≡ decided all known (marked marks) k → (j : ℕ) → decided_one all known (marked marks) k j ≡ marked (slice_set marks k mark) j
    mark_set marks k mark room is j = by (j == k) refl
      where
        apart : j ≡ k → (j == k) ≡ false → ⊥
        apart same e = absurd (let bad : (k == k) ≡ false = subst (λ i. (i == k) ≡ false) same e in let clash : true ≡ false = sym (same_number k) ∙ bad in cc)

        by : (t : Bool) → (j == k) ≡ t → decided_one all known (marked marks) k j ≡ marked (slice_set marks k mark) j
        by true e =
            let same : j ≡ k = eqb-true j k e in
            subst (λ i. decided_one all known (marked marks) k i ≡ marked (slice_set marks k mark) i) (sym same) (itself (marked marks) k ∙ sym is ∙ sym (get_or-set_same marks k mark false room) ∙ sym (unwrap_or-slice_get (slice_set marks k mark) k false))
        by false e =
            sym (kept (marked marks) k j e) ∙ unwrap_or-slice_get marks j false ∙ sym (get_or-set_other marks k j mark false (λ (same : j ≡ k). apart same e)) ∙ sym (unwrap_or-slice_get (slice_set marks k mark) j false)

    marks_more : (done : ℕ → Bool) (marks : List Bool) (k : ℕ) (mark : Bool) → AreDecided all known done (marked marks) → CallsDone all known done k → done k ≡ false → k < length marks → mark ≡ decided all known (marked marks) k → AreDecided all known (λ j. (j == k) || done j) (marked (slice_set marks k mark))
    marks_more done marks k mark h calls out room is =
        subst (λ only. AreDecided all known (λ j. (j == k) || done j) only) (λ i. λ j. mark_set marks k mark room is j i) (one_more done (marked marks) k h calls out)

    left_out : AreAccepted all known → (k : ℕ) (o : Option Callee) → all.methods.callee k ≡ o → ((m : Callee) → o ≡ Some m → is_short (called_from all) 64 k ≡ false) → known k ≡ None
    left_out a k None there long = a.each k ∙ rw there refl
    left_out a k (Some m) there long = long_is_none a k (long m refl)

pub integers_are_one : IntegersAreOne
integers_are_one all known a only other p q k = one_same all known a only other p q k (is_short (called_from all) 64 k) refl

pub order_decides : OrderDecides
order_decides all known a order ordered others =
    in_order all known order (λ k. false) [] (record { each = λ k e. absurd cc; behind = λ k e. absurd cc; none = λ k e. refl }) ordered
    (λ k away out. left_out all known a k (all.methods.callee k) refl (λ m there. others k m there out))

pub marks_decide : MarksDecide
marks_decide all known done marks k mark h calls out room is = marks_more all known done marks k mark h calls out room is

pub done_decides : DoneDecides
done_decides all known done only h others = done_decide all known done only h others
