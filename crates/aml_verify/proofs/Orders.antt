-- An order in which each method stands behind those that it calls, and behind it those that begin too long a chain.
use Rattle.std.proofs.Common.{◌≡◌, ℕ, zero, suc, List, [], ◌∷◌, ◌++◌, take, slice_get, Some, refl, sym, ap, subst, ◌∙◌}
use Rattle.std.proofs.lemmas.Bool.{or_parts}
use Rattle.std.proofs.lemmas.List.{map-append}
use Rattle.std.proofs.lemmas.Option.{same_Some}
use Rattle.std.specs.Prelude.{Bool, true, false, ◌==◌, ◌||◌}
use Rattle.aml_calls.specs.Chains.{is_among, is_short, IsBehindCallees, TellsReach}
use Rattle.aml_calls.specs.Pairs.{calls_in, IsCallOrder, named, numbers, Pair}
use Rattle.aml_calls.proofs.Among.{among_all, among_append, first_among, neither, not_both, rest_among}
use Rattle.aml_calls.proofs.ChainLaws.{chains_are_counted}
use Rattle.aml_calls.proofs.Places.{callee_named}
use Rattle.aml_components.specs.Components.{AreComponents, are_together}
use Rattle.aml_components.specs.declared.components.Components.{Components}
use Rattle.aml_components.specs.Heights.{AreHeights}
use Rattle.aml_components.specs.declared.heights.Heights.{Heights}
use Rattle.aml_judged.specs.Verdicts.{called_from, Judging}
use Rattle.aml_methods.specs.Gathered.{AreCalls}
use Rattle.aml_methods.specs.Judgings.{IsJudging, TellsCalls, Told}
use Rattle.aml_objects.specs.declared.object.Method.{Method}
use Rattle.aml_namespace.specs.Load.{Shown}
use Rattle.aml_namespace.specs.Names.{method_at}
use Rattle.aml_paths.specs.declared.scope.ObjectId.{ObjectId}

get_among : (ks : List ℕ) (i k : ℕ) → slice_get ks i ≡ Some k → is_among k ks ≡ true
get_among [] i k e = absurd cc
get_among (x ∷ ks) zero k e = subst (λ n. is_among n (x ∷ ks) ≡ true) (same_Some x k e) (first_among x ks)
get_among (x ∷ ks) (suc i) k e = rest_among k x ks (get_among ks i k e)

or_true : (p q : Bool) → (p || q) ≡ true → p ≡ false → q ≡ true
or_true true q e f = absurd cc
or_true false q e f = e

module _ (calls : ℕ → List ℕ) where
  -- a callee of some method that is left out stands before, or begins too long a chain
  abbrev LeftOut : List ℕ → List ℕ → List ℕ → Type 0
  LeftOut done ordered others =
      (k j : ℕ) → is_among k others ≡ true → is_among j (calls k) ≡ true → is_among j ordered ≡ false → is_among j done ≡ false → is_short calls 64 j ≡ false

  ready_from : (done ordered others : List ℕ) → IsBehindCallees calls done ordered → LeftOut done ordered others → (i k j : ℕ) → slice_get (ordered ++ others) i ≡ Some k → is_among j (calls k) ≡ true → is_among j done ≡ false → is_among j (take i (ordered ++ others)) ≡ false → is_short calls 64 j ≡ false
  ready_from done [] others behind left i k j at called out away = left k j (get_among others i k at) called refl out
  ready_from done (x ∷ xs) others behind left zero k j at called out away =
      absurd (not_both (is_among j done) (among_all (λ n. is_among n done) j (calls x) (subst (λ n. is_among j (calls n) ≡ true) (sym (same_Some x k at)) called) behind.0) out)
  ready_from done (x ∷ xs) others behind left (suc i) k j at called out away =
      let two = or_parts (j == x) (is_among j (take i (xs ++ others))) away in
      ready_from (x ∷ done) xs others behind.2
      (λ n m among calls_m not_xs not_done. let parts = or_parts (m == x) (is_among m done) not_done in left n m among calls_m (neither (m == x) (is_among m xs) parts.0 not_xs) parts.1)
      i k j at called (neither (j == x) (is_among j done) two.0 out) two.1

numbers_append : (xs ys : List ObjectId) → numbers (xs ++ ys) ≡ numbers xs ++ numbers ys
numbers_append xs ys = map-append (λ (id : ObjectId). id.0) xs ys

module _ (pairs : List Pair) (ordered others : List ℕ) (order : IsCallOrder pairs ordered others) where
  left_out : LeftOut (calls_in pairs) [] ordered others
  left_out k j among called out none =
      (chains_are_counted (calls_in pairs)).cycle 64 j (order.cycles j (or_true (is_among j ordered) (is_among j others) (order.all j (callee_named pairs k j called)) out))

  pub ready : (i k j : ℕ) → slice_get (ordered ++ others) i ≡ Some k → is_among j (calls_in pairs k) ≡ true → is_among j (take i (ordered ++ others)) ≡ false → is_short (calls_in pairs) 64 j ≡ false
  ready i k j at called away = ready_from (calls_in pairs) [] ordered others order.behind left_out i k j at called refl away

  pub is_ordered : (k : ℕ) → is_among k (named pairs) ≡ true → is_among k (ordered ++ others) ≡ true
  is_ordered k named_k = among_append k ordered others ∙ order.all k named_k

pub tells_calls : (ns : Shown) (pairs : List Pair) → AreCalls ns pairs → (ordered others : List ObjectId) → IsCallOrder pairs (numbers ordered) (numbers others) → (h : Heights) → AreHeights pairs h → (c : Components) → AreComponents pairs c → (told : Told) (all : Judging) → IsJudging ns told all → (order : List ObjectId) → order ≡ ordered ++ others → TellsCalls all h c (numbers order)
tells_calls ns pairs calls ordered others in_order h heights c components told all j order is = here
  where
    same : calls_in pairs ≡ called_from all
    same = λ i. λ k. calls.each k told all j i

    listed : numbers order ≡ numbers ordered ++ numbers others
    listed = ap numbers is ∙ numbers_append ordered others

    here : TellsCalls all h c (numbers order)
    here = record {
      short = λ d k le. heights d k le ∙ ap (λ f. is_short f d k) same;
      reach = λ k i among. subst (λ (f : ℕ → List ℕ). TellsReach f i k (are_together c i k)) same (components.returns k i (subst (λ (f : ℕ → List ℕ). is_among i (f k) ≡ true) (sym same) among));
      ready = λ i k n at called away. ap (λ f. is_short f 64 n) (sym same) ∙ ready pairs (numbers ordered) (numbers others) in_order i k n (subst (λ ks. slice_get ks i ≡ Some k) listed at) (subst (λ (f : ℕ → List ℕ). is_among n (f k) ≡ true) (sym same) called) (subst (λ ks. is_among n (take i ks) ≡ false) listed away);
    }

pub are_ordered : (ns : Shown) (pairs : List Pair) → AreCalls ns pairs → (ordered others order : List ObjectId) → IsCallOrder pairs (numbers ordered) (numbers others) → order ≡ ordered ++ others → (k : ℕ) (m : Method) → method_at ns k ≡ Some m → is_among k (numbers order) ≡ true
are_ordered ns pairs calls ordered others order in_order is k m there =
    subst (λ ks. is_among k ks ≡ true) (sym (ap numbers is ∙ numbers_append ordered others)) (is_ordered pairs (numbers ordered) (numbers others) in_order k (calls.all k m there))
