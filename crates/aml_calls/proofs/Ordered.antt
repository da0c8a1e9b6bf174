-- A search of all named has their order.
use Rattle.std.proofs.Common.{◌≡◌, ℕ, List, [], refl, sym, ap, ◌∙◌}
use Rattle.std.specs.Prelude.{Bool, true, false, ◌||◌}
use Rattle.aml_calls.specs.declared.order.Mark.{Mark}
use Rattle.aml_calls.specs.declared.order.Mark.TheVariants.{New, Begun, Placed}
use Rattle.aml_calls.specs.Chains.{is_among}
use Rattle.aml_calls.specs.Pairs.{calls_in, IsCallOrder, named, Pair}
use Rattle.aml_calls.specs.Search.{AreLeft, IsSearch, is_begun, is_new, is_placed, mark_at}
use Rattle.aml_calls.proofs.Among.{or_left, or_right}
use Rattle.aml_calls.proofs.ChainLaws.{cycles, Goes, never_cycles}

begun_is : (m : Mark) → is_begun m ≡ true → m ≡ Begun
begun_is New e = absurd cc
begun_is Begun e = refl
begun_is Placed e = absurd cc

not_new : (m : Mark) → is_placed m ≡ true → is_new m ≡ false
not_new New e = absurd cc
not_new Begun e = absurd cc
not_new Placed e = refl

either : (m : Mark) (p q : Bool) → is_new m ≡ false → is_placed m ≡ p → q ≡ is_begun m → (p || q) ≡ true
either New p q e f g = absurd cc
either Begun p q e f g = or_right p q g
either Placed p q e f g = or_left p q (sym f)

pub finished : (pairs : List Pair) (marks : List Mark) (passed ordered others : List ℕ) → IsSearch (calls_in pairs) (named pairs) marks passed [] ordered → ((k : ℕ) → is_among k (named pairs) ≡ true → is_new (mark_at marks k) ≡ false) → AreLeft marks others → IsCallOrder pairs ordered others
finished pairs marks passed ordered others s begun left = record {
  behind = s.behind;
  never = never_cycles (calls_in pairs) ordered s.behind;
  cycles = cycles (calls_in pairs) others goes;
  once = left.once;
  all = λ k e. either (mark_at marks k) (is_among k ordered) (is_among k others) (begun k e) (s.placed k) (left.begun k);
  only = λ k e. by k (is_among k ordered) refl e;
}
  where
    goes : (k : ℕ) → is_among k others ≡ true → Goes (calls_in pairs) others k
    goes k e =
        let w = s.was_left k (begun_is (mark_at marks k) (sym (left.begun k) ∙ e)) refl in
        record { next = w.next; called = w.called; inside = left.begun w.next ∙ ap is_begun w.begun }

    by : (k : ℕ) (b : Bool) → is_among k ordered ≡ b → (b || is_among k others) ≡ true → is_among k (named pairs) ≡ true
    by k true f e = s.only k (not_new (mark_at marks k) (s.placed k ∙ f))
    by k false f e = s.only k (ap is_new (begun_is (mark_at marks k) (sym (left.begun k) ∙ e)))
