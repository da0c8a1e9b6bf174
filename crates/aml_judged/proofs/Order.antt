-- Verdicts are one, and judged in call order.
use Rattle.std.proofs.Common.{◌≡◌, ℕ, zero, suc, List, [], ◌∷◌, Option, Some, None, refl, sym, ap, ◌∙◌, subst}
use Rattle.std.proofs.lemmas.Bool.{or_parts, eqb-true}
use Rattle.std.specs.List.{list_all}
use Rattle.std.specs.Prelude.{Bool, true, false, ◌==◌, ◌||◌, not, if◌then◌else◌}
use Rattle.aml_meaning.specs.Within.{Callee}
use Rattle.aml_calls.specs.Chains.{is_among, is_short, IsBehindCallees}
use Rattle.aml_calls.proofs.Among.{all_among, among_all, neither, rest_among, same_number}
use Rattle.aml_judged.specs.Causes as cause
use Rattle.aml_judged.specs.Judged.{Accepted, Judged, Goes, Stops}
use Rattle.aml_judged.specs.Bodies.{shared_only, judged_method, entry}
use Rattle.aml_judged.specs.Laws.{VerdictsAreOne, judged_one, judged_in_order, OrderAnswers}
use Rattle.aml_judged.specs.Verdicts.{verdict_of, accepted_of, called_from, Judging, seen_from, around_for, verdict_by, AreAccepted}

same_function : {X Y : Type 0} (f g : X → Y) → ((x : X) → f x ≡ g x) → f ≡ g
same_function f g h = λ i. λ x. h x i

choice_same : {X : Type 0} (b : Bool) (x y z : X) → (b ≡ true → x ≡ y) → (if b then x else z) ≡ (if b then y else z)
choice_same true x y z h = h refl
choice_same false x y z h = refl

module _ (all : Judging) where
  -- a verdict hangs on those of its method's callees alone
  sees : (known other : ℕ → Option Accepted) (k : ℕ) → ((j : ℕ) → is_among j (called_from all k) ≡ true → known j ≡ other j) → seen_from all known k ≡ seen_from all other k
  sees known other k h = same_function _ _ (λ j. ap (λ a. record { reaches = all.reaches j k; deep = not (is_short (called_from all) 63 j); accepted = a }) (choice_same (is_among j (called_from all k)) (known j) (other j) None (h j)))

  pub local_verdict : (known other : ℕ → Option Accepted) (k : ℕ) → ((j : ℕ) → is_among j (called_from all k) ≡ true → known j ≡ other j) → (o : Option Callee) → verdict_by all known k o ≡ verdict_by all other k o
  local_verdict known other k h None = refl
  local_verdict known other k h (Some m) =
      ap (λ callee. Some (verdict_of (is_short (called_from all) 64 k) (record { table = m.table; at = m.opcode; why = cause.BoundTooLarge }) (all.args k) (judged_method (record { table = m.table; width = all.methods.width; link = m.link; lone = m.lone; object = all.methods.object; field = all.methods.field; buffer_field = all.methods.buffer_field; literal = m.literal; kinds = shared_only all.kinds; callee = callee }) m.opcode m.body (entry (all.args k))))) (sees known other k h)

  long_verdict : (short : Bool) (late : _) (args : _) (j : Judged (Unit {0})) → short ≡ false → accepted_of (Some (verdict_of short late args j)) ≡ None
  long_verdict false late args (Goes u env x n) e = refl
  long_verdict false late args (Stops r) e = refl
  long_verdict true late args j e = absurd cc

  -- a method that begins too long a chain is not accepted
  pub long_refused : (known : ℕ → Option Accepted) (k : ℕ) (o : Option Callee) → is_short (called_from all) 64 k ≡ false → accepted_of (verdict_by all known k o) ≡ None
  long_refused known k None e = refl
  long_refused known k (Some m) e = long_verdict (is_short (called_from all) 64 k) _ _ (judged_method (around_for all known k m) m.opcode m.body (entry (all.args k))) e

  -- two answers are the same, by the lengths of chains
  module _ (known other : ℕ → Option Accepted) (a : AreAccepted all known) (b : AreAccepted all other) where
    short_same : (d k : ℕ) → is_short (called_from all) d k ≡ true → known k ≡ other k
    unfolding is_short
    short_same zero k e = absurd cc
    short_same (suc d) k e = a.each k ∙ ap accepted_of (local_verdict known other k (λ j among. short_same d j (among_all (is_short (called_from all) d) j (called_from all k) among e)) (all.methods.callee k)) ∙ sym (b.each k)

    all_same : (k : ℕ) (t : Bool) → is_short (called_from all) 64 k ≡ t → known k ≡ other k
    all_same k true e = short_same 64 k e
    all_same k false e = a.each k ∙ long_refused known k (all.methods.callee k) e ∙ sym (long_refused other k (all.methods.callee k) e) ∙ sym (b.each k)

  record Answers (known : ℕ → Option Accepted) (done : List ℕ) : Type 0 where
    each : (k : ℕ) → is_among k done ≡ true → known k ≡ accepted_of (verdict_by all known k (all.methods.callee k))
    within : (k : ℕ) → is_among k done ≡ true → list_all (λ j. is_among j done) (called_from all k) ≡ true
    none : (k : ℕ) → is_among k done ≡ false → known k ≡ None

  not_both : (k j : ℕ) (done : List ℕ) → is_among k done ≡ false → is_among j done ≡ true → (j == k) ≡ false
  not_both k j done out among = by (j == k) refl
    where
      by : (t : Bool) → (j == k) ≡ t → t ≡ false
      by false e = refl
      by true e = absurd (let same : j ≡ k = eqb-true j k e in let bad : is_among j done ≡ false = subst (λ i. is_among i done ≡ false) (sym same) out in let clash : true ≡ false = sym among ∙ bad in cc)

  -- a method more leaves what was known of others
  kept : (known : ℕ → Option Accepted) (k j : ℕ) → (j == k) ≡ false → known j ≡ judged_one all known k j
  kept known k j e = rw e refl

  more_among : (k : ℕ) (done js : List ℕ) → list_all (λ j. is_among j done) js ≡ true → list_all (λ j. is_among j (k ∷ done)) js ≡ true
  more_among k done js h = all_among (λ j. is_among j (k ∷ done)) js (λ j among. rest_among j k done (among_all (λ i. is_among i done) j js among h))

  one_more : (known : ℕ → Option Accepted) (done : List ℕ) (k : ℕ) → Answers known done → list_all (λ j. is_among j done) (called_from all k) ≡ true → is_among k done ≡ false → Answers (judged_one all known k) (k ∷ done)
  one_more known done k h calls out = record {
    each = λ j among. each_by j (j == k) refl among;
    within = λ j among. within_by j (j == k) refl among;
    none = λ j away. none_by j away;
  }
    where
      agree : (m : ℕ) → list_all (λ j. is_among j done) (called_from all m) ≡ true → (j : ℕ) → is_among j (called_from all m) ≡ true → known j ≡ judged_one all known k j
      agree m inside j among = kept known k j (not_both k j done out (among_all (λ i. is_among i done) j (called_from all m) among inside))

      itself : judged_one all known k k ≡ accepted_of (verdict_by all known k (all.methods.callee k))
      itself = rw (same_number k) refl

      each_by : (j : ℕ) (t : Bool) → (j == k) ≡ t → (t || is_among j done) ≡ true → judged_one all known k j ≡ accepted_of (verdict_by all (judged_one all known k) j (all.methods.callee j))
      each_by j true e among =
          let same : j ≡ k = eqb-true j k e in
          subst (λ i. judged_one all known k i ≡ accepted_of (verdict_by all (judged_one all known k) i (all.methods.callee i))) (sym same) (itself ∙ ap accepted_of (local_verdict known (judged_one all known k) k (agree k calls) (all.methods.callee k)))
      each_by j false e among = sym (kept known k j e) ∙ h.each j among ∙ ap accepted_of (local_verdict known (judged_one all known k) j (agree j (h.within j among)) (all.methods.callee j))

      within_by : (j : ℕ) (t : Bool) → (j == k) ≡ t → (t || is_among j done) ≡ true → list_all (λ i. is_among i (k ∷ done)) (called_from all j) ≡ true
      within_by j true e among = let same : j ≡ k = eqb-true j k e in subst (λ i. list_all (λ n. is_among n (k ∷ done)) (called_from all i) ≡ true) (sym same) (more_among k done (called_from all k) calls)
      within_by j false e among = more_among k done (called_from all j) (h.within j among)

      none_by : (j : ℕ) → ((j == k) || is_among j done) ≡ false → judged_one all known k j ≡ None
      none_by j away = let two = or_parts (j == k) (is_among j done) away in sym (kept known k j two.0) ∙ h.none j two.1

  in_order : (order : List ℕ) (known : ℕ → Option Accepted) (done : List ℕ) → Answers known done → IsBehindCallees (called_from all) done order → ((k : ℕ) (m : Callee) → all.methods.callee k ≡ Some m → is_among k done ≡ false → is_among k order ≡ false → is_short (called_from all) 64 k ≡ false) → AreAccepted all (judged_in_order all known order)
  in_order [] known done h ordered others = record { each = λ k. by k (is_among k done) refl }
    where
      left_out : (k : ℕ) → is_among k done ≡ false → (o : Option Callee) → all.methods.callee k ≡ o → accepted_of (verdict_by all known k o) ≡ None
      left_out k e None there = refl
      left_out k e (Some m) there = long_refused known k (Some m) (others k m there e refl)

      by : (k : ℕ) (t : Bool) → is_among k done ≡ t → known k ≡ accepted_of (verdict_by all known k (all.methods.callee k))
      by k true e = h.each k e
      by k false e = h.none k e ∙ sym (left_out k e (all.methods.callee k) refl)
  in_order (k ∷ ks) known done h ordered others =
      in_order ks (judged_one all known k) (k ∷ done) (one_more known done k h ordered.0 ordered.1) ordered.2
      (λ j m there away out. let two = or_parts (j == k) (is_among j done) away in others j m there two.1 (neither (j == k) (is_among j ks) two.0 out))

pub verdicts_are_one : VerdictsAreOne
verdicts_are_one all known other a b k = all_same all known other a b k (is_short (called_from all) 64 k) refl

pub order_answers : OrderAnswers
order_answers all order ordered others =
    in_order all order (λ k. None) [] (record { each = λ k e. absurd cc; within = λ k e. absurd cc; none = λ k e. refl }) ordered (λ k m there away out. others k m there out)
