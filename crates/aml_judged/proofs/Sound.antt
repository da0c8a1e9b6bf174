-- A body that is judged fine meets no error, and takes no more steps than it costs.
use Rattle.std.proofs.Common.{◌≡◌, ℕ, ◌^◌, ◌≤◌, ◌<◌, List, Option, Some, None, refl, sym, subst, arith}
use Rattle.std.specs.Prelude.{Bool, true, false, ◌==◌, if◌then◌else◌, slice_get, unwrap_or}
use Rattle.aml_operators.specs.Shape.{operator_of}
use Rattle.aml_operators.specs.Literal.{literal_in}
use Rattle.aml_operators.specs.Tree.{Tree, Trees, Node, none, more}
use Rattle.aml_values.specs.Values.{Value, Int}
use Rattle.aml_kinds.specs.Kinds.{Kind, IntUpTo}
use Rattle.aml_regions.specs.Events.{Event, Notified}
use Rattle.aml_meaning.specs.declared.action.Action.{Action}
use Rattle.aml_meaning.specs.declared.action.Action.TheVariants.{Data, Unary, LNot, Divide, Convert, Concatenate, SizeOf, CondRefOf, Index, Notify, Pause, Literal, Local, Argument, Name, Binary, ByOne, Compare, Dereference, Store, Return, If, While, Break, Continue, Nothing, Invoke, Acquire, Release}
use Rattle.aml_meaning.specs.Actions.{action}
use Rattle.aml_meaning.specs.State as state
use Rattle.aml_meaning.specs.State.{State, Out, Halts, NoAnswer, Spent, with_steps}
use Rattle.aml_meaning.specs.Parts.{M, ◌>>=◌, give, tick, paid, get_local, get_arg, make_event}
use Rattle.aml_meaning.specs.Rules.{integer, combined, transformed, compared, negated, divided}
use Rattle.aml_meaning.specs.Buffers.{concatenated}
use Rattle.aml_meaning.specs.Conversions.{converted}
use Rattle.aml_meaning.specs.Elements.{byte_written, element_at}
use Rattle.aml_meaning.specs.Changes.{change}
use Rattle.aml_meaning.specs.Notices.{notice}
use Rattle.aml_contents.specs.BodyData.{computed_size}
use Rattle.aml_contents.specs.FirstKinds.{kind_by}
use Rattle.aml_meaning.specs.Meaning.{indexed, untargeted, dereferenced, led, place_at, Setting, at_of, act, mean, value, values, mean_all, block, otherwise, is_else, store, stored, tested, gives_value, takes_operand, operator_action, place, outside}
use Rattle.aml_judged.specs.Causes as causes
use Rattle.aml_judged.specs.Known.{Env}
use Rattle.aml_judged.specs.Judge as judge
use Rattle.aml_judged.specs.Judge.{judged_indexed, held_kind, judged_stored, judged_store, shape_of, number_of, judged_test, judged, judged_value, judged_act, judged_values, judged_all, judged_block, judged_otherwise, judged_untargeted, judged_dereferenced, judged_led, refusal, judged_taken, judged_released, not_defined}
use Rattle.aml_judged.specs.Judged.{NameKinds, Yield, Seen, Judged, Goes, Stops, Rule, then_judge, pays, goes, ruled, meet}
use Rattle.aml_judged.specs.KindRules.{byte_written_kind, integer_kind, combined_kind, transformed_kind, negated_kind, divided_kind, converted_kind, concatenated_kind, notice_kind, led_kind, compared_kind}
use Rattle.aml_judged.proofs.Words.{words_of}
use Rattle.aml_judged.proofs.IndexSafe.{SamePlace, indexed_safe, byte_safe}
use Rattle.aml_judged.proofs.KindRules.{plain, IsBelow, IsNumber, le_test, integer_follows, combined_follows, compared_follows, transformed_follows, negated_follows, AreDivision, divided_follows, converted_follows, concatenated_follows, led_follows}
use Rattle.aml_bounds.specs.Shapes.{is_operand}
use Rattle.aml_judged.specs.Safe.{FitScript, FitAll, AreCalls, AreTame}
use Rattle.aml_judged.specs.Small.{IsSmallBy, IsSmall, AllSmall}
use Rattle.aml_judged.proofs.Fits.{fits_by, in_range}
use Rattle.aml_judged.proofs.Parts.{safe_then, tick_then, stepped, meet_left, meet_right}
use Rattle.aml_judged.proofs.Turns.{spells}
use Rattle.aml_judged.proofs.Shapes.{OnGoes, any_goes, only_goes, tells, test_lower}
use Rattle.aml_judged.proofs.Loops.{IsUnit, Held, is_nonzero}
use Rattle.aml_judged.proofs.ReadsSafe.{lift_safe, want_safe, slot_safe, name_safe, literal_data_safe, size_safe, condition_safe}
use Rattle.aml_judged.proofs.StoresSafe.{put_safe, placed_safe}
use Rattle.aml_judged.proofs.EffectsSafe.{MayNotify, notified_safe, Noticed, notice_follows, event_safe, pause_safe, untargeted_safe}
use Rattle.aml_judged.proofs.Leaving.{return_safe, break_safe, continue_safe}
use Rattle.aml_judged.proofs.Invoked.{invoked_safe}
use Rattle.aml_judged.proofs.Tests.{test_safe}
use Rattle.aml_judged.proofs.Whiles.{while_safe}
use Rattle.aml_meaning.specs.Mutexes.{acquire, release}
use Rattle.aml_judged.specs.Causes.{Refusal}
use Rattle.aml_judged.proofs.Mutexes.{SameMutex, mutex_safe, taken_safe, released_safe}
use Rattle.aml_meaning.specs.declared.definition.Definition.{Definition}
use Rattle.aml_meaning.specs.declared.definition.Definition.TheVariants as makes
use Rattle.aml_meaning.specs.Definitions.{definition}

module _ (here : Setting) (kinds : NameKinds) (callee : ℕ → Seen) (above : ℕ) where
  open words_of here kinds callee above use {around, Fine, Safe, Is, Yields}

  abbrev SmallBy : Action → Trees → Type 0
  SmallBy = IsSmallBy here.width here.literal

  abbrev Small : Tree → Type 0
  Small = IsSmall here.width here.literal

  abbrev SmallAll : Trees → Type 0
  SmallAll = AllSmall here.width here.literal

  module _ (script : List Event) (slept : FitScript here.width kinds.shared script) (calls : AreCalls here.width kinds callee here.call) (tame : AreTame here.call) (narrow : here.width ≤ 64) (wide : 255 < 2 ^ here.width) where
    one_is : Is (Int 1) (IntUpTo 1)
    one_is = record { fit = refl; word = omega (arith, wide) }

    zero_is : Is (Int 0) (IntUpTo 0)
    zero_is = record { fit = refl; word = omega (arith, wide) }

    into_same : (g : Tree) (R : Action → Type 0) → R (operator_action here g) → R (action (operator_of g))
    into_same (Node o at stop ts) R h = h

    takes_same : (g : Tree) → takes_operand (operator_action here g) ≡ takes_operand (action (operator_of g))
    takes_same (Node o at stop ts) = refl

    operand_same : (a : Action) (ts : Trees) → gives_value here a ts ≡ is_operand a ts
    operand_same Store (more a (more g none)) = takes_same g
    operand_same a ts = refl

    operand_safe : (b : Bool) (a : Action) (at : ℕ) (ts : Trees) (env : Env) (s : State) → gives_value here a ts ≡ b → Safe (plain Yields) s.steps (judged_act around true a at ts env) ((act here a at ts).run script s) → Safe (plain Yields) s.steps ((if b then judged_act around true a at ts else judge.stops around causes.OutsideProfile at) env) ((if gives_value here a ts then act here a at ts else outside here at).run script s)
    operand_safe true a at ts env s e h = rw e h
    operand_safe false a at ts env s e h = tt

    if_safe : (i j : Judged (Unit {0})) (m n : M (Unit {0})) (b : Bool) (r : Refusal) (s : State) → (b ≡ false → Safe IsUnit s.steps i (m.run script s)) → Safe IsUnit s.steps j (n.run script s) → Safe IsUnit s.steps (meet r i j) ((if b then n else m).run script s)
    if_safe i j m n true r s h g = meet_right here.width kinds above IsUnit s.steps r i j _ g
    if_safe i j m n false r s h g = meet_left here.width kinds above IsUnit s.steps r i j _ (h refl)

    choice_safe : (b : Bool) (ri rj : Rule (Unit {0})) (m n : M (Unit {0})) (env : Env) (s : State) → Safe IsUnit s.steps (ri env) (m.run script s) → Safe IsUnit s.steps (rj env) (n.run script s) → Safe IsUnit s.steps ((if b then ri else rj) env) ((if b then m else n).run script s)
    choice_safe true ri rj m n env s h g = h
    choice_safe false ri rj m n env s h g = g

    nothing_safe : (env : Env) (s : State) → Fine env s → Safe IsUnit s.steps (goes tt env) ((give tt).run script s)
    unfolding give
    nothing_safe env s fits = (tt, fits, omega arith)

    -- an operand, and that it is its number where it is a literal
    abbrev IsLiteral : Tree → Value → Kind → Type 0
    IsLiteral t v k = Is v k × IsNumber here.width (number_of around t) v

    number_told : (t : Tree) (o : Option ℕ) (s : State) → number_of around t ≡ o → OnGoes (λ v next. IsNumber here.width o v) ((value here t).run script s)
    number_told t (Some n) s e = only_goes _ (λ v next. v ≡ Int n) ((value here t).run script s) (λ v next h. h.0) (spells around here refl t n e script s)
    number_told t None s e = any_goes (λ v next. Unit {0}) ((value here t).run script s) (λ v next. tt)

    with_told : {V K : Type 0} (P : V → K → Type 0) (R : V → Type 0) (before : ℕ) (j : Judged K) (o : Out V) → Safe (plain P) before j o → OnGoes (λ v next. R v) o → Safe (λ v k s. P v k × R v) before j o
    with_told P R before (Stops r) o h g = tt
    with_told P R before (Goes k e x n) (state.Goes v s) h g = ((h.0, g), h.1, h.2)
    with_told P R before (Goes k e x n) (Halts stop s) h g = h
    with_told P R before (Goes k e x n) (NoAnswer s) h g = tt
    with_told P R before (Goes k e x n) (Spent s) h g = h

    literal_safe : (t : Tree) (env : Env) (s : State) → Safe (plain Is) s.steps (judged_value around t env) ((value here t).run script s) → Safe (plain (IsLiteral t)) s.steps (judged_value around t env) ((value here t).run script s)
    literal_safe t env s h = with_told Is (IsNumber here.width (number_of around t)) s.steps (judged_value around t env) ((value here t).run script s) h (number_told t (number_of around t) s refl)

    -- a definition that stands where it may not is refused
    top_safe : (d : Definition) (at : ℕ) (rule : Rule Yield) (env : Env) (before : ℕ) (o : Out (Option Value)) → Safe (plain Yields) before (rule env) o → Safe (plain Yields) before (not_defined around d at rule env) o
    top_safe makes.Nothing at rule env before o h = h
    top_safe d at rule env before o h = tt

    mutual
      unfolding ◌>>=◌ tick paid give get_local get_arg make_event

      pub mean_safe : (t : Tree) → Small t → (env : Env) (s : State) → Fine env s → Safe (plain Yields) s.steps (judged around t env) ((mean here t).run script s)
      mean_safe (Node o at stop ts) small env s fits = tick_then here.width kinds above (plain Yields) _ s.steps s _ (λ m. top_safe (definition o) at (judged_act around false (action o) at ts) env m ((act here (action o) at ts).run script (with_steps s m)) (act_safe false (action o) at ts small.0 small.1 env (with_steps s m) (stepped here.width kinds above env s m fits)))

      value_safe : (t : Tree) → Small t → (env : Env) (s : State) → Fine env s → Safe (plain Is) s.steps (judged_value around t env) ((value here t).run script s)
      value_safe (Node o at stop ts) small env s fits = tick_then here.width kinds above (plain Is) _ s.steps s _ (λ m.
          safe_then here.width kinds above (plain Yields) (plain Is) m _ _ _ _ (operand_safe (is_operand (action o) ts) (action o) at ts env (with_steps s m) (operand_same (action o) ts) (act_safe true (action o) at ts small.0 small.1 env (with_steps s m) (stepped here.width kinds above env s m fits))) (λ y e v s1 p f1.
          want_safe here kinds callee above script at y e v s1 p f1))

      act_safe : (w : Bool) (a : Action) (at : ℕ) (ts : Trees) → SmallBy a ts → SmallAll ts → (env : Env) (s : State) → Fine env s → Safe (plain Yields) s.steps (judged_act around w a at ts env) ((act here a at ts).run script s)
      act_safe w (Literal o) at ts own small env s fits = (record { fit = le_test here.width _ _ (omega arith); word = in_range here.width (unwrap_or (literal_in o ts) 0) }, fits, omega arith)
      act_safe w (Data o) at ts own small env s fits = literal_data_safe here kinds callee above script (computed_size o at ts) (kind_by (here.literal o ts)) (here.literal o ts) env s (record { fit = fits_by (here.literal o ts); word = own }) fits
      act_safe w (Local i) at ts own small env s fits = slot_safe here kinds callee above script at i env.locals s.frame.locals (slice_get env.locals i) env s refl fits.own fits
      act_safe w (Argument i) at ts own small env s fits = slot_safe here kinds callee above script at i env.args s.frame.args (slice_get env.args i) env s refl fits.given fits
      act_safe w (Binary f) at (more a (more b (more g none))) own small env s fits =
          safe_then here.width kinds above (plain Is) (plain Yields) s.steps _ _ _ _ (value_safe a small.0 env s fits) (λ j ea x s1 p f1.
          safe_then here.width kinds above (plain (IsLiteral b)) (plain Yields) s1.steps _ _ _ _ (literal_safe b ea s1 (value_safe b small.1.0 ea s1 f1)) (λ k eb y s2 q f2.
          safe_then here.width kinds above (plain Is) (plain Yields) s2.steps _ _ _ _ (lift_safe here kinds callee above script Is (combined_kind here.width f (judge.place around a) j (judge.place around b) k (number_of around b)) (combined here.width f (place here a) x (place here b) y) eb s2 (combined_follows here.width f _ _ _ _ j k x y (number_of around b) narrow p q.0 q.1) f2) (λ l ec v s3 r f3.
          safe_then here.width kinds above IsUnit (plain Yields) s3.steps _ _ _ _ (store_safe g small.1.1.0 l v ec s3 r f3) (λ u ed z s4 n f4. (r, f4, omega arith)))))
      act_safe w (Unary f) at (more a (more g none)) own small env s fits =
          safe_then here.width kinds above (plain Is) (plain Yields) s.steps _ _ _ _ (value_safe a small.0 env s fits) (λ k ea x s1 p f1.
          safe_then here.width kinds above (plain Is) (plain Yields) s1.steps _ _ _ _ (lift_safe here kinds callee above script Is (transformed_kind here.width f (judge.place around a) k) (transformed here.width f (place here a) x) ea s1 (transformed_follows here.width f _ _ k x narrow p) f1) (λ l ec v s3 r f3.
          safe_then here.width kinds above IsUnit (plain Yields) s3.steps _ _ _ _ (store_safe g small.1.0 l v ec s3 r f3) (λ u ed z s4 n f4. (r, f4, omega arith))))
      act_safe w LNot at (more a none) own small env s fits =
          safe_then here.width kinds above (plain Is) (plain Yields) s.steps _ _ _ _ (value_safe a small.0 env s fits) (λ k ea x s1 p f1.
          safe_then here.width kinds above (plain Is) (plain Yields) s1.steps _ _ _ _ (lift_safe here kinds callee above script Is (negated_kind here.width (judge.place around a) k) (negated here.width (place here a) x) ea s1 (negated_follows here.width _ _ k x p) f1) (λ l ec v s3 r f3. (r, f3, omega arith)))
      act_safe w Divide at (more a (more b (more r (more q none)))) own small env s fits =
          safe_then here.width kinds above (plain Is) (plain Yields) s.steps _ _ _ _ (value_safe a small.0 env s fits) (λ j ea x s1 p f1.
          safe_then here.width kinds above (plain (IsLiteral b)) (plain Yields) s1.steps _ _ _ _ (literal_safe b ea s1 (value_safe b small.1.0 ea s1 f1)) (λ k eb y s2 lit f2.
          safe_then here.width kinds above (plain (AreDivision here.width)) (plain Yields) s2.steps _ _ _ _ (lift_safe here kinds callee above script (AreDivision here.width) (divided_kind here.width (judge.place around a) j (judge.place around b) k (number_of around b)) (divided (place here a) x (place here b) y) eb s2 (divided_follows here.width _ _ _ _ j k x y (number_of around b) p lit.0 lit.1) f2) (λ d ec v s3 m f3.
          safe_then here.width kinds above IsUnit (plain Yields) s3.steps _ _ _ _ (store_safe r small.1.1.0 d.remainder v.remainder ec s3 m.remainder f3) (λ u ed z s4 n f4.
          safe_then here.width kinds above IsUnit (plain Yields) s4.steps _ _ _ _ (store_safe q small.1.1.1.0 d.quotient v.quotient ed s4 m.quotient f4) (λ u2 ee z2 s5 n2 f5. (m.quotient, f5, omega arith))))))
      act_safe w (Convert f) at (more a (more g none)) own small env s fits =
          safe_then here.width kinds above (plain Is) (plain Yields) s.steps _ _ _ _ (value_safe a small.0 env s fits) (λ k ea x s1 p f1.
          safe_then here.width kinds above (plain Is) (plain Yields) s1.steps _ _ _ _ (lift_safe here kinds callee above script Is (converted_kind here.width f (judge.place_at around at) (judge.place around a) k) (converted here.width f (place_at here at) (place here a) x) ea s1 (converted_follows here.width f _ _ _ _ k x p) f1) (λ l ec v s3 r f3.
          safe_then here.width kinds above IsUnit (plain Yields) s3.steps _ _ _ _ (store_safe g small.1.0 l v ec s3 r f3) (λ u ed z s4 n f4. (r, f4, omega arith))))
      act_safe w Concatenate at (more a (more b (more g none))) own small env s fits =
          safe_then here.width kinds above (plain Is) (plain Yields) s.steps _ _ _ _ (value_safe a small.0 env s fits) (λ j ea x s1 p f1.
          safe_then here.width kinds above (plain Is) (plain Yields) s1.steps _ _ _ _ (value_safe b small.1.0 ea s1 f1) (λ k eb y s2 q f2.
          safe_then here.width kinds above (plain Is) (plain Yields) s2.steps _ _ _ _ (lift_safe here kinds callee above script Is (concatenated_kind (judge.place_at around at) (judge.place around a) j (judge.place around b) k) (concatenated (place_at here at) (place here a) x (place here b) y) eb s2 (concatenated_follows here.width _ _ _ _ _ _ j k x y p q) f2) (λ l ec v s3 r f3.
          safe_then here.width kinds above IsUnit (plain Yields) s3.steps _ _ _ _ (store_safe g small.1.1.0 l v ec s3 r f3) (λ u ed z s4 n f4. (r, f4, omega arith)))))
      act_safe w SizeOf at (more a none) own small env s fits =
          safe_then here.width kinds above (plain Is) (plain Yields) s.steps _ _ _ _ (size_safe here kinds callee above script a env s fits) (λ l ec v s3 r f3. (r, f3, omega arith))
      act_safe w Dereference at (more a none) own small env s fits = dereferenced_safe at a small.0 env s fits
      act_safe w CondRefOf at (more a (more g none)) own small env s fits = condition_safe here kinds callee above script at a g env s fits
      act_safe w (ByOne f) at (more a none) own small env s fits =
          safe_then here.width kinds above IsUnit (plain Yields) s.steps _ _ _ _ (placed_safe here kinds callee above script a env s fits) (λ u0 e0 z0 s0 n0 f0.
          safe_then here.width kinds above (plain Is) (plain Yields) s0.steps _ _ _ _ (value_safe a small.0 e0 s0 f0) (λ j ea x s1 p f1.
          safe_then here.width kinds above (plain Is) (plain Yields) s1.steps _ _ _ _ (lift_safe here kinds callee above script Is (combined_kind here.width f (judge.place around a) j (judge.place around a) (IntUpTo 1) (Some 1)) (combined here.width f (place here a) x (place here a) (Int 1)) ea s1 (combined_follows here.width f _ _ _ _ j (IntUpTo 1) x (Int 1) (Some 1) narrow p one_is refl) f1) (λ l ec v s3 r f3.
          safe_then here.width kinds above IsUnit (plain Yields) s3.steps _ _ _ _ (store_safe a small.0 l v ec s3 r f3) (λ u ed z s4 n f4. (r, f4, omega arith)))))
      act_safe w (Compare f) at (more a (more b none)) own small env s fits =
          safe_then here.width kinds above (plain Is) (plain Yields) s.steps _ _ _ _ (value_safe a small.0 env s fits) (λ j ea x s1 p f1.
          safe_then here.width kinds above (plain Is) (plain Yields) s1.steps _ _ _ _ (value_safe b small.1.0 ea s1 f1) (λ k eb y s2 q f2.
          safe_then here.width kinds above (plain Is) (plain Yields) s2.steps _ _ _ _ (lift_safe here kinds callee above script Is (compared_kind here.width f (judge.place around a) j (judge.place around b) k) (compared here.width f (place here a) x (place here b) y) eb s2 (compared_follows here.width f _ _ _ _ j k x y p q) f2) (λ l ec v s3 r f3. (r, f3, omega arith))))
      act_safe w Store at (more a (more g none)) own small env s fits =
          safe_then here.width kinds above (plain Is) (plain Yields) s.steps _ _ _ _ (value_safe a small.0 env s fits) (λ l ea v s1 r f1.
          safe_then here.width kinds above IsUnit (plain Yields) s1.steps _ _ _ _ (store_safe g small.1.0 l v ea s1 r f1) (λ u ed z s2 n f2. (r, f2, omega arith)))
      act_safe w Return at (more a none) own small env s fits =
          safe_then here.width kinds above (plain Is) (plain Yields) s.steps _ _ _ _ (value_safe a small.0 env s fits) (λ l ea v s1 r f1. return_safe here kinds callee above script at l v ea s1 r f1)
      act_safe w If at (more t body) own small env s fits =
          safe_then here.width kinds above (Held around kinds above) (plain Yields) s.steps _ _ _ _ (test_safe here kinds callee above script t env s (value_safe t small.0 env s fits)) (λ held et x s1 p f1.
          safe_then here.width kinds above IsUnit (plain Yields) s1.steps _ _ _ _ (if_safe _ _ (block here body) (otherwise here body) (x == 0) (refusal around causes.HeldDiffers at) s1 (λ z. block_safe body small.1 held s1 (p (is_nonzero x z))) (otherwise_safe body small.1 et s1 f1)) (λ u2 eb z s2 q f2. (tt, f2, omega arith)))
      act_safe w While at (more t body) own small env s fits =
          safe_then here.width kinds above IsUnit (plain Yields) s.steps _ _ _ _ (while_safe here kinds callee above script tame narrow (shape_of around t body) at body (tested here (place here t) (value here t)) (judged_test around t (judged_value around t)) (judged_all around body) env s (tells around here refl (place here t) t body) (test_lower around here refl (place here t) t script) (λ e s1 f1. test_safe here kinds callee above script t e s1 (value_safe t small.0 e s1 f1)) (λ e s1 f1. all_safe body small.1 e s1 f1) fits) (λ u2 eb z s2 q f2. (tt, f2, omega arith))
      act_safe w Break at ts own small env s fits = break_safe here kinds callee above script env.looped at env s fits
      act_safe w Continue at ts own small env s fits = continue_safe here kinds callee above script env.looped at env s fits
      act_safe w Nothing at ts own small env s fits = (tt, fits, omega arith)
      act_safe w Name at ts own small env s fits = name_safe here kinds callee above script (here.link at) at env s fits
      act_safe w Invoke at (more name arguments) own small env s fits = invoked_safe here kinds callee above script slept calls w (here.link (at_of name)) (at_of name) _ arguments (judged_values around arguments) (values here arguments) env s (values_safe arguments small.1 env s fits) fits
      act_safe w Notify at (more o (more a none)) own small env s fits =
          safe_then here.width kinds above (plain (MayNotify here kinds callee above script slept)) (plain Yields) s.steps _ _ _ _ (notified_safe here kinds callee above script slept (action (operator_of o)) (at_of o) env s fits) (λ may ea object s1 m f1.
          safe_then here.width kinds above (plain Is) (plain Yields) s1.steps _ _ _ _ (value_safe a small.1.0 ea s1 f1) (λ k eb x s2 p f2.
          safe_then here.width kinds above (plain (Noticed here kinds callee above script slept)) (plain Yields) s2.steps _ _ _ _ (lift_safe here kinds callee above script (Noticed here kinds callee above script slept) (notice_kind (judge.place around o) may) (notice (place here o) object) eb s2 (notice_follows here kinds callee above script slept _ _ object may m) f2) (λ u ec id s3 z f3.
          safe_then here.width kinds above (plain (IsBelow here.width)) (plain Yields) s3.steps _ _ _ _ (lift_safe here kinds callee above script (IsBelow here.width) (integer_kind (judge.place around a) k) (integer (place here a) x) ec s3 (integer_follows here.width _ _ k x p) f3) (λ j ed n s4 y f4.
          event_safe here kinds callee above script slept s4.steps (Notified id n) ed s4 f4))))
      act_safe w (Pause f) at (more a none) own small env s fits =
          safe_then here.width kinds above (plain Is) (plain Yields) s.steps _ _ _ _ (value_safe a small.0 env s fits) (λ k eb x s2 p f2.
          safe_then here.width kinds above (plain (IsBelow here.width)) (plain Yields) s2.steps _ _ _ _ (lift_safe here kinds callee above script (IsBelow here.width) (integer_kind (judge.place around a) k) (integer (place here a) x) eb s2 (integer_follows here.width _ _ k x p) f2) (λ j ed n s4 y f4.
          pause_safe here kinds callee above script slept f n ed s4 f4))
      act_safe w Acquire at (more o (more timeout none)) own small env s fits =
          safe_then here.width kinds above (plain SameMutex) (plain Yields) s.steps _ _ _ _ (mutex_safe here kinds callee above script at (action (operator_of o)) (at_of o) env s fits) (λ n ea m s1 same f1.
          safe_then here.width kinds above IsUnit (plain Yields) s1.steps _ _ _ _ (subst (λ k. Safe IsUnit s1.steps (judged_taken around at k ea) ((acquire here.table at m).run script s1)) same (taken_safe here kinds callee above script at m ea s1 f1)) (λ u eb z s2 p f2. (zero_is, f2, omega arith)))
      act_safe w Release at (more o none) own small env s fits =
          safe_then here.width kinds above (plain SameMutex) (plain Yields) s.steps _ _ _ _ (mutex_safe here kinds callee above script at (action (operator_of o)) (at_of o) env s fits) (λ n ea m s1 same f1.
          safe_then here.width kinds above IsUnit (plain Yields) s1.steps _ _ _ _ (subst (λ k. Safe IsUnit s1.steps (judged_released around at k ea) ((release here.table at m).run script s1)) same (released_safe here kinds callee above script at m ea s1 f1)) (λ u eb z s2 p f2. (tt, f2, omega arith)))
      act_safe w a at ts own small env s fits = tt

      store_safe : (g : Tree) → Small g → (k : Kind) (v : Value) (env : Env) (s : State) → Is v k → Fine env s → Safe IsUnit s.steps (judged_store around g k env) ((store here g v).run script s)
      store_safe (Node o at stop ts) small k v env s h fits = at_store_safe (action o) at ts small.1 k v env s h fits

      at_store_safe : (a : Action) (at : ℕ) (ts : Trees) → SmallAll ts → (k : Kind) (v : Value) (env : Env) (s : State) → Is v k → Fine env s → Safe IsUnit s.steps (judged_stored around a at ts k env) ((stored here a at ts v).run script s)
      at_store_safe Index at (more x (more i (more g none))) small k v env s h fits =
          safe_then here.width kinds above (plain (SamePlace)) IsUnit s.steps _ _ _ _ (into_same g (λ b. Safe (plain SamePlace) s.steps (judged_indexed around at b x env) ((indexed here at (operator_action here g) x).run script s)) (indexed_safe here kinds callee above script at (operator_action here g) x env s fits)) (λ from e0 there s0 same f0.
          safe_then here.width kinds above (plain Is) IsUnit s0.steps _ _ _ _ (value_safe i small.1.0 e0 s0 f0) (λ j ea y s1 p f1.
          subst (λ m. Safe IsUnit s1.steps (then_judge (ruled (byte_written_kind (judge.place_at around at) (judge.place_at around from) (held_kind around (here.link from)) (judge.place around i) j k) ea) (λ u e. pays 1 tt e)) ((change (here.link m) (byte_written (place_at here at) (place_at here m) (place here i) y v)).run script s1)) (sym same) (byte_safe here kinds callee above script at from i (held_kind around (here.link from)) j k y v ea s1 refl p h f1)))
      at_store_safe a at ts small k v env s h fits = put_safe here kinds callee above script a at ts k v env s h fits

      dereferenced_safe : (at : ℕ) (t : Tree) → Small t → (env : Env) (s : State) → Fine env s → Safe (plain Yields) s.steps (judged_dereferenced around at t env) ((dereferenced here at t).run script s)
      dereferenced_safe at (Node o from stop ts) small env s fits = led_safe (action o) at from ts small.1 env s fits

      led_safe : (a : Action) (at from : ℕ) (ts : Trees) → SmallAll ts → (env : Env) (s : State) → Fine env s → Safe (plain Yields) s.steps (judged_led around a at from ts env) ((led here a at from ts).run script s)
      led_safe Index at from (more a (more i (more g none))) small env s fits = tick_then here.width kinds above (plain Yields) _ s.steps s _ (λ m.
          safe_then here.width kinds above IsUnit (plain Yields) m _ _ _ _ (into_same g (λ b. Safe IsUnit m (judged_untargeted around from b env) ((untargeted here from (operator_action here g)).run script (with_steps s m))) (untargeted_safe here kinds callee above script slept from (operator_action here g) env (with_steps s m) (stepped here.width kinds above env s m fits))) (λ u e0 z s0 n0 f0.
          safe_then here.width kinds above (plain Is) (plain Yields) s0.steps _ _ _ _ (value_safe a small.0 e0 s0 f0) (λ j ea x s1 p f1.
          safe_then here.width kinds above (plain (IsLiteral i)) (plain Yields) s1.steps _ _ _ _ (literal_safe i ea s1 (value_safe i small.1.0 ea s1 f1)) (λ k eb y s2 q f2.
          safe_then here.width kinds above (plain Is) (plain Yields) s2.steps _ _ _ _ (lift_safe here kinds callee above script Is (led_kind (judge.place_at around from) (judge.place around a) j (judge.place around i) k (number_of around i)) (element_at (place_at here from) (place here a) x (place here i) y) eb s2 (led_follows here.width _ _ _ _ _ _ j k x y (number_of around i) wide p q.0 q.1) f2) (λ l ec v s3 r f3. (r, f3, omega arith))))))
      led_safe a at from ts small env s fits = tt

      values_safe : (ts : Trees) → SmallAll ts → (env : Env) (s : State) → Fine env s → Safe (plain (FitAll here.width)) s.steps (judged_values around ts env) ((values here ts).run script s)
      values_safe none small env s fits = (tt, fits, omega arith)
      values_safe (more t ts) small env s fits =
          safe_then here.width kinds above (plain Is) (plain (FitAll here.width)) s.steps _ _ _ _ (value_safe t small.0 env s fits) (λ k e v s1 p f1.
          safe_then here.width kinds above (plain (FitAll here.width)) (plain (FitAll here.width)) s1.steps _ _ _ _ (values_safe ts small.1 e s1 f1) (λ ks e2 vs s2 q f2. ((p, q), f2, omega arith)))

      pub all_safe : (ts : Trees) → SmallAll ts → (env : Env) (s : State) → Fine env s → Safe IsUnit s.steps (judged_all around ts env) ((mean_all here ts).run script s)
      all_safe none small env s fits = (tt, fits, omega arith)
      all_safe (more t ts) small env s fits = safe_then here.width kinds above (plain Yields) IsUnit s.steps _ _ _ _ (mean_safe t small.0 env s fits) (λ y e v s1 p f1. all_safe ts small.1 e s1 f1)

      block_safe : (ts : Trees) → SmallAll ts → (env : Env) (s : State) → Fine env s → Safe IsUnit s.steps (judged_block around ts env) ((block here ts).run script s)
      block_safe none small env s fits = (tt, fits, omega arith)
      block_safe (more t ts) small env s fits =
          choice_safe (is_else (operator_of t)) (goes tt) (λ e. then_judge (judged around t e) (λ y. judged_block around ts)) (give tt) (mean here t >>= (λ v. block here ts)) env s (nothing_safe env s fits)
          (safe_then here.width kinds above (plain Yields) IsUnit s.steps (judged around t env) (λ y e. judged_block around ts e) _ _ (mean_safe t small.0 env s fits) (λ y e v s1 p f1. block_safe ts small.1 e s1 f1))

      otherwise_safe : (ts : Trees) → SmallAll ts → (env : Env) (s : State) → Fine env s → Safe IsUnit s.steps (judged_otherwise around ts env) ((otherwise here ts).run script s)
      otherwise_safe none small env s fits = (tt, fits, omega arith)
      otherwise_safe (more (Node o at stop parts) ts) small env s fits = choice_safe (is_else o) (judged_all around parts) (judged_otherwise around ts) (mean_all here parts) (otherwise here ts) env s (all_safe parts small.0.1 env s fits) (otherwise_safe ts small.1 env s fits)
