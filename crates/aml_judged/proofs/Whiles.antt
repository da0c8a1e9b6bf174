-- Loops of each shape, as they are judged.
use Rattle.std.proofs.Common.{◌≡◌, ℕ, zero, suc, ◌+◌, ◌-◌, ◌*◌, ◌%◌, ◌^◌, ◌≤◌, ◌<◌, List, Option, Some, None, refl, sym, ap, ◌∙◌, subst, arith}
use Rattle.std.specs.Prelude.{Bool, true, false, slice_get}
use Rattle.std.proofs.lemmas.Bool.{leb-true}
use Rattle.std.proofs.lemmas.Nat.{pow-add}
use Rattle.std.proofs.Math.Nat.{mod-eq_of_lt, add-mul-mod_self_right}
use Rattle.aml_operators.specs.Tree.{Trees}
use Rattle.aml_values.specs.Values.{Value, Int}
use Rattle.aml_kinds.specs.Kinds.{IntUpTo}
use Rattle.aml_regions.specs.Events.{Event}
use Rattle.aml_meaning.specs.State as state
use Rattle.aml_meaning.specs.State.{State, Error, Returned, Broke, Continued, Out, Halts, NoAnswer, Spent}
use Rattle.aml_meaning.specs.Parts.{M}
use Rattle.aml_meaning.specs.Loops.{loop}
use Rattle.aml_meaning.specs.Meaning.{Setting, mean_all, held}
use Rattle.aml_judged.specs.Causes.{Refusal}
use Rattle.aml_judged.specs.Known.{Slot, Env, in_loop}
use Rattle.aml_judged.specs.Judge as judge
use Rattle.aml_judged.specs.Judge.{begun, comes_back, closed, once, once_ended, often, falling, judged_loop, refusal, past, exit_holds, holds_back}
use Rattle.aml_judged.specs.Judged.{NameKinds, Seen, Judged, Goes, Stops, Rule, after, then_judge, agreed}
use Rattle.aml_bounds.specs.Loops.{steps, rises, falls}
use Rattle.aml_bounds.specs.Shapes.{Shape, Once, Up, Down, Endless}
use Rattle.aml_judged.specs.Safe.{AreTame}
use Rattle.aml_judged.proofs.Words.{words_of}
use Rattle.aml_judged.proofs.Fits.{HasFit, get_fits, widened_slots_fit}
use Rattle.aml_judged.proofs.Parts.{in_loop_fits}
use Rattle.aml_judged.proofs.Tame.{are_calm}
use Rattle.aml_judged.proofs.Turns.{Only, AtTurn, Holds, risen, fallen, one_turn, no_turn, assign_never}
use Rattle.aml_judged.proofs.Shapes.{Lower, Below, Above, Tests, Told}
use Rattle.aml_judged.proofs.Loops.{IsUnit, Held, once_loop, often_loop}
use Rattle.aml_judged.specs.Causes as causes

-- one less, counted up from 2 to the power 64
shift : (x p q : ℕ) → p ≡ q → 0 < p → suc x + (p - 1) ≡ x + q
shift x p q e pos = omega (arith, e, pos)

wraps : (w x : ℕ) → w ≤ 64 → suc x < 2 ^ w → (suc x + (2 ^ 64 - 1)) % 2 ^ w ≡ x
wraps w x le lt =
    let e : (64 - w) + w ≡ 64 = omega (arith, le) in
    let p : 2 ^ 64 ≡ 2 ^ (64 - w) * 2 ^ w = subst (λ n. 2 ^ n ≡ 2 ^ (64 - w) * 2 ^ w) e (pow-add 2 (64 - w) w) in
    let below : x < 2 ^ w = omega (arith, lt) in
    ap (λ n. n % 2 ^ w) (shift x (2 ^ 64) (2 ^ (64 - w) * 2 ^ w) p (omega arith)) ∙ add-mul-mod_self_right x (2 ^ (64 - w)) (2 ^ w) ∙ mod-eq_of_lt below

module _ (here : Setting) (kinds : NameKinds) (callee : ℕ → Seen) (above : ℕ) (script : List Event) (tame : AreTame here.call) (narrow : here.width ≤ 64) where
  open words_of here kinds callee above use {around, Fine, Safe, Is}

  begun_fits : (ts : Trees) (env : Env) (s : State) → Fine env s → Fine (begun around ts env) s
  begun_fits ts env s f = record { owned = f.owned; fields = f.fields; holds = f.holds; callers = f.callers; reached = f.reached; own = widened_slots_fit here.width _ 0 s.frame.locals env.locals f.own; given = widened_slots_fit here.width _ 0 s.frame.args env.args f.given; shared = f.shared }

  only_map : {V : Type 0} (R T : V → State → Type 0) (o : Out V) → ((v : V) (s : State) → R v s → T v s) → Only R o → Only T o
  only_map R T (state.Goes v s) f h = f v s h
  only_map R T (Halts (Error e) s) f h = tt
  only_map R T (Halts (Returned v) s) f h = absurd h
  only_map R T (Halts (Broke at) s) f h = absurd h
  only_map R T (Halts (Continued at) s) f h = absurd h
  only_map R T (NoAnswer s) f h = tt
  only_map R T (Spent s) f h = tt

  turn_map : (R T : State → Type 0) (o : Out (Unit {0})) → ((s : State) → R s → T s) → AtTurn R o → AtTurn T o
  turn_map R T (state.Goes v s) f h = f s h
  turn_map R T (Halts (Error e) s) f h = tt
  turn_map R T (Halts (Returned v) s) f h = tt
  turn_map R T (Halts (Broke at) s) f h = tt
  turn_map R T (Halts (Continued at) s) f h = f s h
  turn_map R T (NoAnswer s) f h = tt
  turn_map R T (Spent s) f h = tt

  same_int : (o : Option (Option Value)) (m n : ℕ) → o ≡ Some (Some (Int m)) → o ≡ Some (Some (Int n)) → m ≡ n
  same_int o m n e f = let both : Some (Some (Int m)) ≡ Some (Some (Int n)) = sym e ∙ f in cc

  -- turns that are left of a local that rises to c, before a test and behind one that held
  UpLeft : ℕ → ℕ → ℕ → State → Type 0
  UpLeft l c k s = (v : ℕ) → slice_get s.frame.locals l ≡ Some (Some (Int v)) → c ≤ v + k

  record UpMid (l c k : ℕ) (s : State) : Type 0 where
    number : ℕ
    is : slice_get s.frame.locals l ≡ Some (Some (Int number))
    below : number < c
    left : c ≤ number + k

  up_held : (l c : ℕ) (test : M ℕ) → Tests around here refl (Below c) l test → (k : ℕ) (s : State) → UpLeft l c k s → Only (λ v next. (v ≡ 0 → ⊥) → UpMid l c k next) (test.run script s)
  unfolding UpLeft
  up_held l c test tests k s left = only_map _ _ (test.run script s) (λ v next h nz. let b = h.1 nz in record { number = b.number; is = ap (λ f. slice_get f.locals l) h.0 ∙ b.is; below = b.below; left = left b.number b.is }) (tests script s)

  up_none : (l c : ℕ) (s : State) → UpMid l c 0 s → ⊥
  up_none l c s h = let below = h.below in let left = h.left in omega (arith, below, left)

  small_rise : (x c : ℕ) → x < c → c < 2 ^ here.width → (x + 1) % 2 ^ here.width ≡ suc x
  small_rise x c lt small = let below : x + 1 < 2 ^ here.width = omega (arith, lt, small) in let e : (x + 1) % 2 ^ here.width ≡ x + 1 = mod-eq_of_lt below in omega (arith, e)

  up_turn : (l c : ℕ) (ts : Trees) → steps (rises around.width) l ts ≡ true → c < 2 ^ here.width → (k : ℕ) (s : State) → UpMid l c (suc k) s → AtTurn (UpLeft l c k) ((mean_all here ts).run script s)
  unfolding UpLeft
  up_turn l c ts e small k s mid =
      turn_map (λ next. Holds around here refl l (suc mid.number) next.frame) (UpLeft l c k) ((mean_all here ts).run script s) (λ next h v is. let same = same_int _ (suc mid.number) v h is in let left = mid.left in omega (arith, same, left))
      (one_turn around here refl tame (rises around.width) l mid.number (suc mid.number) (λ a at parts m script2 s2 holds. risen around here refl l mid.number (small_rise mid.number c mid.below small) a at parts m script2 s2 holds) script ts e s mid.is)

  -- and of one that falls
  record DownFact (c k v : ℕ) : Type 0 where
    left : v ≤ c + k
    word : v < 2 ^ here.width

  DownLeft : ℕ → ℕ → ℕ → State → Type 0
  DownLeft l c k s = (v : ℕ) → slice_get s.frame.locals l ≡ Some (Some (Int v)) → DownFact c k v

  record DownMid (l c k : ℕ) (s : State) : Type 0 where
    number : ℕ
    is : slice_get s.frame.locals l ≡ Some (Some (Int (suc number)))
    over : c ≤ number
    left : suc number ≤ c + k
    word : suc number < 2 ^ here.width

  down_mid : (l c k : ℕ) (s : State) (v : ℕ) → slice_get s.frame.locals l ≡ Some (Some (Int v)) → c < v → DownFact c k v → DownMid l c k s
  down_mid l c k s zero is lt f = absurd (omega (arith, lt))
  down_mid l c k s (suc v) is lt f = record { number = v; is = is; over = omega (arith, lt); left = f.left; word = f.word }

  down_held : (l c : ℕ) (test : M ℕ) → Tests around here refl (Above c) l test → (k : ℕ) (s : State) → DownLeft l c k s → Only (λ v next. (v ≡ 0 → ⊥) → DownMid l c k next) (test.run script s)
  unfolding DownLeft
  down_held l c test tests k s left = only_map _ _ (test.run script s) (λ v next h nz. let b = h.1 nz in down_mid l c k next b.number (ap (λ f. slice_get f.locals l) h.0 ∙ b.is) b.above (left b.number b.is)) (tests script s)

  down_none : (l c : ℕ) (s : State) → DownMid l c 0 s → ⊥
  down_none l c s h = let over = h.over in let left = h.left in omega (arith, over, left)

  down_turn : (l c : ℕ) (ts : Trees) → steps (falls around.width) l ts ≡ true → (k : ℕ) (s : State) → DownMid l c (suc k) s → AtTurn (DownLeft l c k) ((mean_all here ts).run script s)
  unfolding DownLeft
  down_turn l c ts e k s mid =
      turn_map (λ next. Holds around here refl l mid.number next.frame) (DownLeft l c k) ((mean_all here ts).run script s) (λ next h v is. let same = same_int _ mid.number v h is in let left = mid.left in let word = mid.word in record { left = omega (arith, same, left); word = omega (arith, same, word) })
      (one_turn around here refl tame (falls around.width) l (suc mid.number) mid.number (λ a at parts m script2 s2 holds. fallen around here refl l (suc mid.number) mid.number (wraps here.width mid.number narrow mid.word) a at parts m script2 s2 holds) script ts e s mid.is)

  module _ (at : ℕ) (test : M ℕ) (body : M (Unit {0})) (lower : (s : State) → Lower s.steps (test.run script s)) where
    once_judged : (outer : Bool) (start : Env) (jt : Judged Env) (rb : Rule (Unit {0})) (s : State) → ((s : State) → Fine start s → Safe (Held around kinds above) s.steps jt (test.run script s)) → ((e : Env) (s : State) → Fine e s → Safe IsUnit s.steps (rb e) (body.run script s)) → ((s : State) → AtTurn (λ k. ⊥) (body.run script s)) → Fine start s → Safe IsUnit s.steps (once around outer at jt rb) ((loop test body).run script s)
    once_judged outer start (Stops r) rb s tests bodies never fits = tt
    once_judged outer start (Goes held et xt n) rb s tests bodies never fits = by (rb held) (bodies held)
      where
        by : (jb : Judged (Unit {0})) → ((s : State) → Fine held s → Safe IsUnit s.steps jb (body.run script s)) → Safe IsUnit s.steps (after xt n (once_ended around outer at et jb)) ((loop test body).run script s)
        by (Stops r) h = tt
        by (Goes u2 eb x m) h = choice (exit_holds around x.broke et)
          where
            choice : (b : Bool) → Safe IsUnit s.steps (after xt n (agreed b (refusal around causes.HeldDiffers at) (past around outer et x m))) ((loop test body).run script s)
            choice true = once_loop around kinds above script test body start held et eb xt x n m outer tests h s fits never
            choice false = tt

    often_judged : (outer : Bool) (N : ℕ) (start : Env) (jt : Judged Env) (rb : Rule (Unit {0})) (Left Mid : ℕ → State → Type 0) (s : State) → ((s : State) → Fine start s → Safe (Held around kinds above) s.steps jt (test.run script s)) → ((e : Env) (s : State) → Fine e s → Safe IsUnit s.steps (rb e) (body.run script s)) → ((k : ℕ) (s : State) → Left k s → Only (λ v next. (v ≡ 0 → ⊥) → Mid k next) (test.run script s)) → ((s : State) → Mid 0 s → ⊥) → ((k : ℕ) (s : State) → Mid (suc k) s → AtTurn (Left k) (body.run script s)) → Left N s → Fine start s → Safe IsUnit s.steps (often around outer N at start jt rb) ((loop test body).run script s)
    often_judged outer N start (Stops r) rb Left Mid s tests bodies held none_left turn left fits = tt
    often_judged outer N start (Goes known_held et xt n) rb Left Mid s tests bodies held none_left turn left fits = by (rb known_held) (bodies known_held)
      where
        by : (jb : Judged (Unit {0})) → ((s : State) → Fine known_held s → Safe IsUnit s.steps jb (body.run script s)) → Safe IsUnit s.steps (after xt n (judge.turned around outer N at n start et jb)) ((loop test body).run script s)
        by (Stops r) h = tt
        by (Goes u2 eb x m) h = choice (comes_back around eb x.continued start) (holds_back around eb x start et) refl refl
          where
            choice : (b c : Bool) → comes_back around eb x.continued start ≡ b → holds_back around eb x start et ≡ c → Safe IsUnit s.steps (after xt n (closed around outer N at b c et x (n + m))) ((loop test body).run script s)
            choice true true e f = often_loop around kinds above script test body start known_held et eb xt x n m outer tests h fits.reached e f Left Mid held none_left turn lower N s left fits
            choice true false e f = tt
            choice false c e f = tt

  stopped : {V K L : Type 0} (Q : V → L → State → Type 0) (before : ℕ) (r : Refusal) (j : Judged K) (o : Out V) → Safe Q before (then_judge j (λ k e. Stops r)) o
  stopped Q before r (Stops r2) o = tt
  stopped Q before r (Goes k e x n) o = tt

  from_slot : (c a : ℕ) (o : Option (Option Value)) (v : ℕ) → o ≡ Some (Some (Int v)) → HasFit here.width o (IntUpTo a) → DownFact c (a - c) v
  from_slot c a (Some (Some u)) v e h =
      let same : u ≡ Int v = cc in
      let at_v : Is (Int v) (IntUpTo a) = subst (λ w. Is w (IntUpTo a)) same h in
      let le : v ≤ a = leb-true v a at_v.fit in
      record { left = omega (arith, le); word = at_v.word }
  from_slot c a (Some None) v e h = absurd h
  from_slot c a None v e h = absurd h

  falling_safe : (slot : Option Slot) (l c at : ℕ) (ts : Trees) (test : M ℕ) (rt : Rule Env) (rb : Rule (Unit {0})) (env : Env) (s : State) → slice_get env.locals l ≡ slot → Told around here refl test ts (Down l c) → ((s : State) → Lower s.steps (test.run script s)) → ((e : Env) (s : State) → Fine e s → Safe (Held around kinds above) s.steps (rt e) (test.run script s)) → ((e : Env) (s : State) → Fine e s → Safe IsUnit s.steps (rb e) ((mean_all here ts).run script s)) → Fine env s → Safe IsUnit s.steps (falling around slot c at ts rt rb env) ((loop test (mean_all here ts)).run script s)
  unfolding DownLeft
  falling_safe (Some (Some (IntUpTo a))) l c at ts test rt rb env s e told lower tests bodies fits =
      often_judged at test (mean_all here ts) lower env.looped (a - c) (begun around ts env) (rt (begun around ts env)) rb (DownLeft l c) (DownMid l c) s (tests (begun around ts env)) bodies (down_held l c test told.1) (down_none l c) (down_turn l c ts told.0)
      (λ v is. from_slot c a (slice_get s.frame.locals l) v is (get_fits here.width s.frame.locals env.locals l (IntUpTo a) e fits.own)) (begun_fits ts env s fits)
  falling_safe slot l c at ts test rt rb env s e told lower tests bodies fits = stopped IsUnit s.steps _ (rt (begun around ts env)) _

  pub while_safe : (shape : Shape) (at : ℕ) (ts : Trees) (test : M ℕ) (rt : Rule Env) (rb : Rule (Unit {0})) (env : Env) (s : State) → Told around here refl test ts shape → ((s : State) → Lower s.steps (test.run script s)) → ((e : Env) (s : State) → Fine e s → Safe (Held around kinds above) s.steps (rt e) (test.run script s)) → ((e : Env) (s : State) → Fine e s → Safe IsUnit s.steps (rb e) ((mean_all here ts).run script s)) → Fine env s → Safe IsUnit s.steps (judged_loop around shape at ts rt rb env) ((loop test (mean_all here ts)).run script s)
  unfolding UpLeft
  while_safe Once at ts test rt rb env s told lower tests bodies fits =
      once_judged at test (mean_all here ts) lower env.looped (in_loop true env) (rt (in_loop true env)) rb s (tests (in_loop true env)) bodies
      (no_turn around here refl tame script ts (are_calm None false ts (assign_never ts) (λ e. told.1)) told.0) (in_loop_fits here.width kinds above true env s fits)
  while_safe (Up l c) at ts test rt rb env s told lower tests bodies fits =
      often_judged at test (mean_all here ts) lower env.looped c (begun around ts env) (rt (begun around ts env)) rb (UpLeft l c) (UpMid l c) s (tests (begun around ts env)) bodies (up_held l c test told.2) (up_none l c) (up_turn l c ts told.0 told.1)
      (λ v is. omega arith) (begun_fits ts env s fits)
  while_safe (Down l c) at ts test rt rb env s told lower tests bodies fits = falling_safe (slice_get env.locals l) l c at ts test rt rb env s refl told lower tests bodies fits
  while_safe Endless at ts test rt rb env s told lower tests bodies fits = tt
