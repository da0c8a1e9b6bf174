-- A method more is judged.
use Rattle.std.proofs.Common.{◌≡◌, ◌<◌, ◌≤◌, ◌+◌, ℕ, List, length, take, set, slice_get, Option, Some, None, refl, sym, ap, subst, ◌∙◌, arith}
use Rattle.std.proofs.lemmas.Bool.{or_parts, eqb-true}
use Rattle.std.proofs.lemmas.List.{length-set, take_all}
use Rattle.std.proofs.lemmas.Option.{same_Some}
use Rattle.std.specs.Prelude.{Bool, true, false, not, IsSome, ◌==◌, ◌||◌, if◌then◌else◌}
use Rattle.aml_calls.specs.Chains.{is_among}
use Rattle.aml_calls.proofs.Among.{same_number}
use Rattle.aml_components.specs.Components.{are_together}
use Rattle.aml_components.specs.declared.components.Components.{Components}
use Rattle.aml_components.specs.declared.heights.Heights.{Heights}
use Rattle.aml_kinds.specs.Kinds.{Shape}
use Rattle.aml_known.specs.declared.known.Known.{Known}
use Rattle.aml_judged.specs.Judged as judged
use Rattle.aml_judged.specs.Verdicts.{accepted_of, AreAccepted, called_from, Judging, seen_from, verdict_by}
use Rattle.aml_judged.proofs.Order.{long_refused}
use Rattle.aml_methods.proofs.Judgings.{no_callee}
use Rattle.aml_methods.specs.Judgings.{IsJudging, Told}
use Rattle.aml_objects.specs.declared.object.Method.{Method}
use Rattle.aml_namespace.specs.Load.{Shown}
use Rattle.aml_namespace.specs.Names.{method_at}
use Rattle.aml_shapes.specs.Numbers.{numbered}
use Rattle.aml_methods.proofs.ByNumber.{put_other, put_same}
use Rattle.aml_methods.proofs.Places.{before, by_same, method_within, taken_or, within}
use Rattle.aml_verify.proofs.Seeing.{known_said, one_answer}
use Rattle.aml_verify.specs.Bodies.{callee_by}
use Rattle.aml_verify.specs.Said.{accepted_by, verdict_at}
use Rattle.aml_verify.specs.Verdicts.{IsAtWork, Says, said_more}
use Rattle.aml_verify.specs.declared.verdict.Verdict.{Verdict}

is_there : (o : Option Verdict) (v : Verdict) → o ≡ Some v → IsSome o
is_there None v e = absurd cc
is_there (Some w) v e = refl

not_there : (o : Option Verdict) → IsSome o → o ≡ None → ⊥
not_there None s e = absurd cc
not_there (Some v) s e = absurd cc

module _ (ns : Shown) (told : Told) (shapes : List Shape) (shared : List (Option Known)) (heights : Heights) (components : Components) (order : List ℕ) (judged_so_far : ℕ) (verdicts : List (Option Verdict)) (is : IsAtWork ns told shapes shared heights components order judged_so_far verdicts) where
  module _ (all : Judging) (j : IsJudging ns told all) (known : ℕ → Option judged.Accepted) (a : AreAccepted all known) where
    -- what is not said of a method that is called is not known, either
    unsaid_known : (k i : ℕ) → slice_get order judged_so_far ≡ Some k → is_among i (called_from all k) ≡ true → verdict_at verdicts i ≡ None → (o : Option Method) → method_at ns i ≡ o → known i ≡ None
    unsaid_known k i at called none None e = a.each i ∙ ap (λ c. accepted_of (verdict_by all known i c)) (no_callee ns told all j i e)
    unsaid_known k i at called none (Some m) e = by (is_among i (take judged_so_far order)) refl
      where
        by : (b : Bool) → is_among i (take judged_so_far order) ≡ b → known i ≡ None
        by true among = absurd (not_there (verdict_at verdicts i) (is.said i m e among) none)
        by false away = a.each i ∙ long_refused all known i (all.methods.callee i) ((is.calls all j).ready judged_so_far k i at called away)

    said_known : (i : ℕ) (said : Verdict) → verdict_at verdicts i ≡ Some said → (o : Option Method) → method_at ns i ≡ o → known i ≡ accepted_by (numbered shapes) (Some said)
    said_known i said e None none = absurd (let bad : None ≡ Some said = sym (is.only i none) ∙ e in cc)
    said_known i said e (Some m) there = known_said ns told all j known a (numbered shapes) i m said there (is.right all j known a i m there said e)

    -- what is said of a method that is called is what is known of it
    pub callee_known : (k i : ℕ) → slice_get order judged_so_far ≡ Some k → is_among i (called_from all k) ≡ true → known i ≡ accepted_by (numbered shapes) (verdict_at verdicts i)
    callee_known k i at called = by (verdict_at verdicts i) refl
      where
        by : (o : Option Verdict) → verdict_at verdicts i ≡ o → known i ≡ accepted_by (numbered shapes) (verdict_at verdicts i)
        by None e = unsaid_known k i at called e (method_at ns i) refl ∙ ap (accepted_by (numbered shapes)) (sym e)
        by (Some said) e = said_known i said e (method_at ns i) refl ∙ ap (accepted_by (numbered shapes)) (sym e)

    listed : (b : Bool) (x y : Option judged.Accepted) → b ≡ true → (if b then x else None) ≡ x
    listed true x y e = refl
    listed false x y e = absurd cc

    -- so a method that is next sees of it what it is
    pub callee_same : (k i : ℕ) → slice_get order judged_so_far ≡ Some k → is_among i (called_from all k) ≡ true → seen_from all known k i ≡ callee_by shapes heights components verdicts k i
    callee_same k i at called =
        let calls = is.calls all j in
        let reach = one_answer (called_from all) i k (all.reaches i k) (are_together components i k) (j.chains.each i k) (calls.reach k i called) in
        let deep = sym (calls.short 63 i (omega arith)) in
        let seen = listed (is_among i (called_from all k)) (known i) None called ∙ callee_known k i at called in
        λ x. record { reaches = reach x; deep = not (deep x); accepted = seen x }

  module _ (k : ℕ) (m : Method) (at : slice_get order judged_so_far ≡ Some k) (there : method_at ns k ≡ Some m) (said : Verdict) where
    abbrev next : List (Option Verdict)
    next = set verdicts k (Some said)

    abbrev SaysRight : Type 0
    SaysRight = (all : Judging) → IsJudging ns told all → (known : ℕ → Option judged.Accepted) → AreAccepted all known → Says ns (numbered shapes) k m said (verdict_by all known k (all.methods.callee k))

    room : k < length verdicts
    room = let lt = method_within ns k m there in let r = is.room in omega (arith, lt, r)

    left : (i : ℕ) → is_among i (take (judged_so_far + 1) order) ≡ false → i ≡ k → ⊥
    left i away same =
        let parts = or_parts (is_among i (take judged_so_far order)) ((i == k) || false) (sym (taken_or order judged_so_far k i at) ∙ away) in
        let two = or_parts (i == k) false parts.1 in
        let bad : true ≡ false = sym (subst (λ n. (n == k) ≡ true) (sym same) (same_number k)) ∙ two.0 in
        cc

    right_at : SaysRight → (all : Judging) (j : IsJudging ns told all) (known : ℕ → Option judged.Accepted) (a : AreAccepted all known) (n : Method) → method_at ns k ≡ Some n → (w : Verdict) → verdict_at (set verdicts k (Some said)) k ≡ Some w → Says ns (numbered shapes) k n w (verdict_by all known k (all.methods.callee k))
    right_at says all j known a n here w e =
        let method : m ≡ n = same_Some m n (sym there ∙ here) in
        let verdict : said ≡ w = same_Some said w (sym (put_same None verdicts k (Some said) room) ∙ e) in
        subst (λ x. Says ns (numbered shapes) k x w (verdict_by all known k (all.methods.callee k))) method
        (subst (λ x. Says ns (numbered shapes) k m x (verdict_by all known k (all.methods.callee k))) verdict (says all j known a))

    right_here : SaysRight → (all : Judging) (j : IsJudging ns told all) (known : ℕ → Option judged.Accepted) (a : AreAccepted all known) (i : ℕ) (n : Method) → method_at ns i ≡ Some n → (w : Verdict) → verdict_at (set verdicts k (Some said)) i ≡ Some w → i ≡ k → Says ns (numbered shapes) i n w (verdict_by all known i (all.methods.callee i))
    right_here says all j known a i n here w e same =
        subst (λ x. method_at ns x ≡ Some n → verdict_at (set verdicts k (Some said)) x ≡ Some w → Says ns (numbered shapes) x n w (verdict_by all known x (all.methods.callee x))) (sym same)
        (λ here_k e_k. right_at says all j known a n here_k w e_k) here e

    -- a verifier goes on
    pub one_more : SaysRight → IsAtWork ns told shapes shared heights components order (judged_so_far + 1) next
    one_more says = record {
      shared_are = is.shared_are;
      calls = is.calls;
      ordered = is.ordered;
      room = length-set verdicts k (Some said) ∙ is.room;
      within = let lt = within order judged_so_far k at in omega (arith, lt);
      right = λ all j known a i n here w e. by_same _ i k (λ same. right_here says all j known a i n here w e same) (λ other. is.right all j known a i n here w (sym (put_other None verdicts k (Some said) i other) ∙ e));
      said = λ i n here among. by_same _ i k (λ same. subst (λ x. IsSome (verdict_at (set verdicts k (Some said)) x)) (sym same) (is_there _ said (put_same None verdicts k (Some said) room))) (λ other. subst IsSome (sym (put_other None verdicts k (Some said) i other)) (is.said i n here (before order judged_so_far k i at among other)));
      unsaid = λ i away. by_same _ i k (λ same. absurd (left i away same)) (λ other. put_other None verdicts k (Some said) i other ∙ is.unsaid i (or_parts (is_among i (take judged_so_far order)) ((i == k) || false) (sym (taken_or order judged_so_far k i at) ∙ away)).0);
      only = λ i none. by_same _ i k (λ same. absurd (let bad : None ≡ Some m = sym none ∙ ap (method_at ns) same ∙ there in cc)) (λ other. put_other None verdicts k (Some said) i other ∙ is.only i none);
    }

  -- and past what is no method
  pub one_passed : (k : ℕ) → slice_get order judged_so_far ≡ Some k → method_at ns k ≡ None → IsAtWork ns told shapes shared heights components order (judged_so_far + 1) verdicts
  one_passed k at none = record {
    shared_are = is.shared_are;
    calls = is.calls;
    ordered = is.ordered;
    room = is.room;
    within = let lt = within order judged_so_far k at in omega (arith, lt);
    right = is.right;
    said = λ i m here among. is.said i m here (passed i m here among);
    unsaid = λ i away. is.unsaid i (or_parts (is_among i (take judged_so_far order)) ((i == k) || false) (sym (taken_or order judged_so_far k i at) ∙ away)).0;
    only = is.only;
  }
    where
      among_still : (p q : Bool) → (p || (q || false)) ≡ true → (q ≡ true → ⊥) → p ≡ true
      among_still true q e f = refl
      among_still false true e f = absurd (f refl)
      among_still false false e f = absurd cc

      passed : (i : ℕ) (m : Method) → method_at ns i ≡ Some m → is_among i (take (judged_so_far + 1) order) ≡ true → is_among i (take judged_so_far order) ≡ true
      passed i m here among = among_still (is_among i (take judged_so_far order)) (i == k) (sym (taken_or order judged_so_far k i at) ∙ among) (λ e. let same = eqb-true i k e in let bad : None ≡ Some m = sym none ∙ ap (method_at ns) (sym same) ∙ here in cc)

  abbrev Said : ℕ → Option Verdict → Type 0
  Said k (Some said) = (m : Method) × (method_at ns k ≡ Some m) × ((all : Judging) → IsJudging ns told all → (known : ℕ → Option judged.Accepted) → AreAccepted all known → Says ns (numbered shapes) k m said (verdict_by all known k (all.methods.callee k)))
  Said k None = method_at ns k ≡ None

  -- what is said of the next, if it is a method, is kept
  pub one_step : (k : ℕ) (said : Option Verdict) → slice_get order judged_so_far ≡ Some k → Said k said → IsAtWork ns told shapes shared heights components order (judged_so_far + 1) (said_more verdicts k said)
  one_step k (Some said) at h = one_more k h.0 at h.1 said h.2
  one_step k None at h = one_passed k at h

-- all methods are judged
pub all_judged : (ns : Shown) (told : Told) (shapes : List Shape) (shared : List (Option Known)) (heights : Heights) (components : Components) (order : List ℕ) (so_far : ℕ) (verdicts : List (Option Verdict)) → IsAtWork ns told shapes shared heights components order so_far verdicts → length order ≤ so_far → (k : ℕ) (m : Method) → method_at ns k ≡ Some m → IsSome (verdict_at verdicts k)
all_judged ns told shapes shared heights components order so_far verdicts is all k m there = is.said k m there (subst (λ ks. is_among k ks ≡ true) (sym (take_all so_far order all)) (is.ordered k m there))
