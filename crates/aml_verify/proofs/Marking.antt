-- One method more is marked.
use Rattle.std.proofs.Common.{◌≡◌, ◌≢◌, ◌<◌, ◌≤◌, ◌+◌, ℕ, zero, suc, List, length, take, set, slice_get, Option, Some, None, ◌⊎◌, inl, inr, refl, sym, ap, subst, ◌∙◌, arith}
use Rattle.std.proofs.lemmas.Bool.{eqb-true, or_parts}
use Rattle.std.proofs.lemmas.List.{length-set, take_all}
use Rattle.std.specs.Prelude.{Bool, true, false, replicate, ◌==◌, ◌||◌}
use Rattle.aml_calls.specs.Chains.{is_among}
use Rattle.aml_integers.proofs.Order.{done_decides, marks_decide, refused_is_not}
use Rattle.aml_integers.specs.Known.{marked}
use Rattle.aml_integers.specs.Laws.{AreDecided, CallsDone, decided}
use Rattle.aml_judged.proofs.Order.{long_refused}
use Rattle.aml_judged.specs.Judged.{Accepted}
use Rattle.aml_judged.specs.Verdicts.{accepted_of, AreAccepted, called_from, calls_by, Judging, verdict_by}
use Rattle.aml_methods.proofs.ByNumber.{below_or_past, past, put_other, put_past, put_same}
use Rattle.aml_methods.proofs.Judgings.{no_callee}
use Rattle.aml_methods.specs.Judgings.{IsJudging, IsReady, Told}
use Rattle.aml_objects.specs.declared.object.Method.{Method}
use Rattle.aml_namespace.specs.Load.{Shown}
use Rattle.aml_namespace.specs.Names.{method_at}
use Rattle.aml_methods.proofs.Places.{by_same, method_within, taken_or}
use Rattle.aml_verify.specs.Keeping.{AreMarked, MarksSoFar}

-- where all marks are alike, none is set
pub none_is_marked : (n k : ℕ) → marked (replicate n false) k ≡ false
none_is_marked zero k = refl
none_is_marked (suc n) zero = refl
none_is_marked (suc n) (suc k) = none_is_marked n k

-- a mark that is laid where it is changes none
same_marks : (ms : List Bool) (k : ℕ) (one : Bool) → one ≡ marked ms k → marked (set ms k one) ≡ marked ms
same_marks ms k one is = λ x i. each i x
  where
    here : (k < length ms) ⊎ (length ms ≤ k) → marked (set ms k one) k ≡ marked ms k
    here (inl lt) = put_same false ms k one lt ∙ is
    here (inr le) = put_past false ms k one le ∙ sym (past false ms k le)

    each : (i : ℕ) → marked (set ms k one) i ≡ marked ms i
    each i = by_same _ i k (λ same. subst (λ n. marked (set ms k one) n ≡ marked ms n) (sym same) (here (below_or_past k (length ms)))) (λ other. put_other false ms k one i other)

or_swap : (p q : Bool) → (q || p) ≡ (p || (q || false))
or_swap true true = refl
or_swap true false = refl
or_swap false true = refl
or_swap false false = refl

or_done : (p q : Bool) → (q ≡ true → p ≡ true) → (p || (q || false)) ≡ p
or_done true q h = refl
or_done false true h = sym (h refl)
or_done false false h = refl

module _ (all : Judging) (known : ℕ → Option Accepted) (a : AreAccepted all known) (order : List ℕ) (so_far : ℕ) (k : ℕ) (at : slice_get order so_far ≡ Some k) where
  abbrev done : ℕ → Bool
  done i = is_among i (take so_far order)

  abbrev next : ℕ → Bool
  next i = is_among i (take (so_far + 1) order)

  next_is : (i : ℕ) → next i ≡ (done i || ((i == k) || false))
  next_is i = taken_or order so_far k i at

  -- what the next method calls is done, or refused
  calls_done : IsReady all order → CallsDone all known done k
  calls_done ready i among away = a.each i ∙ long_refused all known i (all.methods.callee i) (ready so_far k i at among away)

  module _ (marks : List Bool) (is : AreDecided all known done (marked marks)) (mark : Bool) (right : mark ≡ decided all known (marked marks) k) where
    -- one that was done before
    again : done k ≡ true → AreDecided all known next (marked (set marks k mark))
    again before =
        let same : marked (set marks k mark) ≡ marked marks = same_marks marks k mark (right ∙ sym (is.each k before)) in
        let done_too : done ≡ next = λ x i. sym (next_is i ∙ or_done (done i) (i == k) (λ e. subst (λ n. done n ≡ true) (sym (eqb-true i k e)) before)) x in
        subst (λ (d : ℕ → Bool). AreDecided all known d (marked (set marks k mark))) done_too (subst (λ (m : ℕ → Bool). AreDecided all known done m) (sym same) is)

    -- one that is new
    fresh : k < length marks → IsReady all order → done k ≡ false → AreDecided all known next (marked (set marks k mark))
    fresh lt ready out =
        let more = marks_decide all known done marks k mark is (calls_done ready) out lt right in
        let both : (λ i. (i == k) || done i) ≡ next = λ x i. (or_swap (done i) (i == k) ∙ sym (next_is i)) x in
        subst (λ (d : ℕ → Bool). AreDecided all known d (marked (set marks k mark))) both more

    pub method_marked : k < length marks → IsReady all order → AreDecided all known next (marked (set marks k mark))
    method_marked lt ready = by (done k) refl
      where
        by : (b : Bool) → done k ≡ b → AreDecided all known next (marked (set marks k mark))
        by true e = again e
        by false e = fresh lt ready e

    -- what is no method is not marked
    pub nothing_marked : all.methods.callee k ≡ None → AreDecided all known next (marked (set marks k mark))
    nothing_marked none = subst (λ (m : ℕ → Bool). AreDecided all known next m) (sym same) still
      where
        unknown : known k ≡ None
        unknown = a.each k ∙ ap (λ o. accepted_of (verdict_by all known k o)) none

        undecided : decided all known (marked marks) k ≡ false
        undecided = refused_is_not all known (marked marks) k unknown

        unmarked : marked marks k ≡ false
        unmarked = by (done k) refl
          where
            by : (b : Bool) → done k ≡ b → marked marks k ≡ false
            by true e = is.each k e ∙ undecided
            by false e = is.none k e

        same : marked (set marks k mark) ≡ marked marks
        same = same_marks marks k mark (right ∙ undecided ∙ sym unmarked)

        out_before : (i : ℕ) → next i ≡ false → done i ≡ false
        out_before i e = (or_parts (done i) ((i == k) || false) (sym (next_is i) ∙ e)).0

        calls_nothing : (i : ℕ) → is_among i (called_from all k) ≡ true → ⊥
        calls_nothing i among = let e : is_among i (calls_by None) ≡ true = subst (λ o. is_among i (calls_by o) ≡ true) none among in absurd cc

        among_still : (i : ℕ) → next i ≡ true → i ≢ k → done i ≡ true
        among_still i e other = by (done i) (i == k) (sym (next_is i) ∙ e) (λ same. other (eqb-true i k same))
          where
            by : (p q : Bool) → (p || (q || false)) ≡ true → (q ≡ true → ⊥) → p ≡ true
            by true q e f = refl
            by false true e f = absurd (f refl)
            by false false e f = absurd cc

        still : AreDecided all known next (marked marks)
        still = record {
          each = λ i e. by_same _ i k (λ here. subst (λ n. marked marks n ≡ decided all known (marked marks) n) (sym here) (unmarked ∙ sym undecided)) (λ other. is.each i (among_still i e other));
          behind = λ i e j among out. by_same _ i k (λ here. absurd (calls_nothing j (subst (λ n. is_among j (called_from all n) ≡ true) here among))) (λ other. is.behind i (among_still i e other) j among (out_before j out));
          none = λ i e. is.none i (out_before i e);
        }

-- one number more is marked
pub one_marked : (ns : Shown) (told : Told) (order : List ℕ) (so_far : ℕ) (marks : List Bool) → MarksSoFar ns told order so_far marks → ((all : Judging) → IsJudging ns told all → IsReady all order) → (k : ℕ) → slice_get order so_far ≡ Some k → (mark : Bool)
    → ((all : Judging) → IsJudging ns told all → (known : ℕ → Option Accepted) → AreAccepted all known → mark ≡ decided all known (marked marks) k) → MarksSoFar ns told order (so_far + 1) (set marks k mark)
one_marked ns told order so_far marks is ready k at mark right = record {
  room = length-set marks k mark ∙ is.room;
  are = λ all j known a. by all j known a (method_at ns k) refl;
}
  where
    by : (all : Judging) (j : IsJudging ns told all) (known : ℕ → Option Accepted) (a : AreAccepted all known) (o : Option Method) → method_at ns k ≡ o → AreDecided all known (λ i. is_among i (take (so_far + 1) order)) (marked (set marks k mark))
    by all j known a None e = nothing_marked all known a order so_far k at marks (is.are all j known a) mark (right all j known a) (no_callee ns told all j k e)
    by all j known a (Some m) e =
        let lt = method_within ns k m e in
        let room = is.room in
        method_marked all known a order so_far k at marks (is.are all j known a) mark (right all j known a) (omega (arith, lt, room)) (ready all j)

-- at first none is
pub none_marked : (ns : Shown) (told : Told) (order : List ℕ) (marks : List Bool) → length marks ≡ length ns.entries → ((k : ℕ) → marked marks k ≡ false) → MarksSoFar ns told order 0 marks
none_marked ns told order marks room none = record {
  room = room;
  are = λ all j known a. record { each = λ k e. absurd cc; behind = λ k e. absurd cc; none = λ k e. none k };
}

-- in the end those are that evaluate integers alone
pub all_marked : (ns : Shown) (told : Told) (order : List ℕ) (so_far : ℕ) (marks : List Bool) → MarksSoFar ns told order so_far marks → length order ≤ so_far → ((k : ℕ) (m : Method) → method_at ns k ≡ Some m → is_among k order ≡ true) → AreMarked ns told marks
all_marked ns told order so_far marks is every ordered all j known a = done_decides all known (λ k. is_among k (take so_far order)) (marked marks) (is.are all j known a) (λ k away. left_out k away (method_at ns k) refl)
  where
    left_out : (k : ℕ) → is_among k (take so_far order) ≡ false → (o : Option Method) → method_at ns k ≡ o → known k ≡ None
    left_out k away None e = a.each k ∙ ap (λ o. accepted_of (verdict_by all known k o)) (no_callee ns told all j k e)
    left_out k away (Some m) e = absurd (let in_order = ordered k m e in let out : is_among k order ≡ false = subst (λ ks. is_among k ks ≡ false) (take_all so_far order every) away in cc)
