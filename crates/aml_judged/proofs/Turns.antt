-- What a loop's test and a turn of its body do to the local that counts its turns.
use Rattle.std.proofs.Common.{◌≡◌, ℕ, zero, suc, ◌+◌, ◌-◌, ◌%◌, ◌^◌, List, [], ◌∷◌, Option, Some, None, refl, sym, ap, ◌∙◌, subst, arith}
use Rattle.std.specs.Prelude.{Bool, true, false, ◌&&◌, ◌||◌, not, if◌then◌else◌, slice_get, slice_set, unwrap_or}
use Rattle.std.proofs.lemmas.Bool.{and_parts, eqb-true}
use Rattle.aml_operators.specs.Literal.{literal_in}
use Rattle.aml_operators.specs.Tree.{Tree, Trees, Node, none, more}
use Rattle.aml_values.specs.Values.{Value, Int}
use Rattle.aml_regions.specs.Events.{Event}
use Rattle.aml_meaning.specs.declared.action.Action.{Action}
use Rattle.aml_meaning.specs.declared.action.Action.TheVariants.{Argument, Literal, Local, Binary, Unary, ByOne, Divide, Convert, Concatenate, Store, Return, Break, CondRefOf, Index, Unwritten}
use Rattle.aml_meaning.specs.declared.action.Arithmetic.TheVariants as arithmetic
use Rattle.aml_meaning.specs.Actions.{action}
use Rattle.aml_meaning.specs.State as state
use Rattle.aml_meaning.specs.State.{State, Frame, Stop, Error, Returned, Broke, Continued, error, Out, Halts, NoAnswer, Spent, with_steps}
use Rattle.aml_meaning.specs.Parts.{M, ◌>>=◌, give, stop_with, lift, tick, paid, take_step, then_do, get_local, get_arg, set_local, content_or}
use Rattle.aml_meaning.specs.Mutexes.{none_held}
use Rattle.aml_meaning.specs.Rules.{Place, combined}
use Rattle.aml_meaning.specs.Meaning.{Setting, at_of, act, mean, value, mean_all, want, store, stored, gives_value, changed_in_place, operator_action, place, outside}
use Rattle.aml_bounds.specs.Loops.{spelled, number, number_of, is_number, is_one, rises, falls, steps}
use Rattle.aml_judged.specs.Judged.{Around}
use Rattle.aml_bounds.specs.Shapes.{is_arg, targets, is_local, acts, assigns, assigns_in, continues, is_leave, leaves, lettered, outside_targets, is_target}
use Rattle.aml_judged.specs.Safe.{AreTame}
use Rattle.aml_judged.proofs.Tame.{watching, Tame, AreCalm, calm, are_calm, all_tame, term_tame}
use Rattle.aml_operators.specs.declared.op.Op.{Op}
use Rattle.aml_operators.specs.declared.row.Letter.{Letter}
use Rattle.aml_operators.specs.Table.{letters_of}

-- goes on as is said, or meets an error, or stops short; it never leaves by an exit
abbrev pub Only : {V : Type 0} → (V → State → Type 0) → Out V → Type 0
Only R (state.Goes v s) = R v s
Only R (Halts (Error e) s) = Unit {0}
Only R (Halts stop s) = ⊥
Only R (NoAnswer s) = Unit {0}
Only R (Spent s) = Unit {0}

pub then_only : {V W : Type 0} (R : V → State → Type 0) (T : W → State → Type 0) (o : Out V) (f : V → State → Out W) → Only R o → ((v : V) (s : State) → R v s → Only T (f v s)) → Only T (then_do o f)
then_only R T (state.Goes v s) f h next = next v s h
then_only R T (Halts (Error e) s) f h next = tt
then_only R T (Halts (Returned v) s) f h next = absurd h
then_only R T (Halts (Broke at) s) f h next = absurd h
then_only R T (Halts (Continued at) s) f h next = absurd h
then_only R T (NoAnswer s) f h next = tt
then_only R T (Spent s) f h next = tt

pub step_only : {V : Type 0} (T : V → State → Type 0) (n : ℕ) (s : State) (f : Unit {0} → State → Out V) → ((m : ℕ) → Only T (f tt (with_steps s m))) → Only T (then_do (take_step n s (λ next. state.Goes tt next)) f)
step_only T zero s f next = tt
step_only T (suc n) s f next = next n

-- where a turn ends
abbrev pub AtTurn : (State → Type 0) → Out (Unit {0}) → Type 0
AtTurn R (state.Goes v s) = R s
AtTurn R (Halts (Continued at) s) = R s
AtTurn R (Halts (Error e) s) = Unit {0}
AtTurn R (Halts (Returned v) s) = Unit {0}
AtTurn R (Halts (Broke at) s) = Unit {0}
AtTurn R (NoAnswer s) = Unit {0}
AtTurn R (Spent s) = Unit {0}

same_local : (l : ℕ) (a : Action) → is_local l a ≡ true → a ≡ Local l
same_local l (Local k) e = ap Local (eqb-true k l e)
same_local l a e = absurd cc

same_arg : (i : ℕ) (a : Action) → is_arg i a ≡ true → a ≡ Argument i
same_arg i (Argument k) e = ap Argument (eqb-true k i e)
same_arg i a e = absurd cc

set_slot : (vs : List (Option Value)) (l : ℕ) (x y : Option Value) → slice_get vs l ≡ Some x → slice_get (slice_set vs l y) l ≡ Some y
set_slot [] l x y e = absurd cc
set_slot (v ∷ vs) zero x y e = refl
set_slot (v ∷ vs) (suc l) x y e = set_slot vs l x y e

module _ (around : Around) (here : Setting) (widths : here.width ≡ around.width) where
  abbrev pub value_of : Action → ℕ → Trees → M Value
  value_of a at parts = do
    _ ← tick
    v ← if gives_value here a parts then act here a at parts else outside here at
    want here at v

  abbrev pub Reads : Frame → Option (Option Value) → Value → State → Type 0
  Reads f slot v s = (slot ≡ Some (Some v)) × (s.frame ≡ f)

  content_only : (at : ℕ) (slot : Option (Option Value)) (s : State) → Only (Reads s.frame slot) (content_or here.table at slot s)
  content_only at (Some (Some v)) s = (refl, refl)
  content_only at (Some None) s = tt
  content_only at None s = tt

  pub want_only : (R : Value → State → Type 0) (at : ℕ) (o : Option Value) (script : List Event) (s : State) → ((v : Value) → o ≡ Some v → R v s) → Only R ((want here at o).run script s)
  unfolding give stop_with
  want_only R at (Some v) script s h = h v refl
  want_only R at None script s h = tt

  pub local_only : (l at : ℕ) (parts : Trees) (script : List Event) (s : State) → Only (Reads s.frame (slice_get s.frame.locals l)) ((value_of (Local l) at parts).run script s)
  unfolding ◌>>=◌ tick paid give get_local
  local_only l at parts script s = step_only _ s.steps s _ (λ m. then_only (λ o next. (v : Value) → o ≡ Some v → Reads s.frame (slice_get s.frame.locals l) v next) _ _ _
      (then_only (Reads s.frame (slice_get s.frame.locals l)) _ _ _ (content_only at (slice_get s.frame.locals l) (with_steps s m)) (λ v next h u e. (h.0 ∙ ap Some e, h.1)))
      (λ o next h. want_only (Reads s.frame (slice_get s.frame.locals l)) at o script next h))

  -- what a local gives
  pub reads : (l : ℕ) (t : Tree) → acts (is_local l) t ≡ true → (script : List Event) (s : State) → Only (Reads s.frame (slice_get s.frame.locals l)) ((value here t).run script s)
  reads l (Node o at stop parts) e script s = subst (λ a. Only (Reads s.frame (slice_get s.frame.locals l)) ((value_of a at parts).run script s)) (sym (same_local l (action o) e)) (local_only l at parts script s)

  arg_only : (i at : ℕ) (parts : Trees) (script : List Event) (s : State) → Only (Reads s.frame (slice_get s.frame.args i)) ((value_of (Argument i) at parts).run script s)
  unfolding ◌>>=◌ tick paid give get_arg
  arg_only i at parts script s = step_only _ s.steps s _ (λ m. then_only (λ o next. (v : Value) → o ≡ Some v → Reads s.frame (slice_get s.frame.args i) v next) _ _ _
      (then_only (Reads s.frame (slice_get s.frame.args i)) _ _ _ (content_only at (slice_get s.frame.args i) (with_steps s m)) (λ v next h u e. (h.0 ∙ ap Some e, h.1)))
      (λ o next h. want_only (Reads s.frame (slice_get s.frame.args i)) at o script next h))

  -- what an argument gives
  pub reads_arg : (i : ℕ) (t : Tree) → acts (is_arg i) t ≡ true → (script : List Event) (s : State) → Only (Reads s.frame (slice_get s.frame.args i)) ((value here t).run script s)
  reads_arg i (Node o at stop parts) e script s = subst (λ a. Only (Reads s.frame (slice_get s.frame.args i)) ((value_of a at parts).run script s)) (sym (same_arg i (action o) e)) (arg_only i at parts script s)

  abbrev pub Spells : Frame → ℕ → Value → State → Type 0
  Spells f n v s = (v ≡ Int n) × (s.frame ≡ f)

  spelled_number : (o : Option ℕ) (n : ℕ) → spelled around.width o ≡ Some n → unwrap_or o 0 % 2 ^ around.width ≡ n
  spelled_number (Some m) n e = cc
  spelled_number None n e = absurd cc

  literal_only : (a : Action) (at : ℕ) (parts : Trees) (n : ℕ) → number around.width a parts ≡ Some n → (script : List Event) (s : State) → Only (Spells s.frame n) ((value_of a at parts).run script s)
  unfolding ◌>>=◌ tick paid give
  literal_only (Literal q) at parts n e script s = step_only _ s.steps s _ (λ m. (ap Int (ap (λ w. unwrap_or (literal_in q parts) 0 % 2 ^ w) widths ∙ spelled_number (literal_in q parts) n e), refl))
  literal_only a at parts n e script s = absurd cc

  pub spells : (t : Tree) (n : ℕ) → number_of around.width t ≡ Some n → (script : List Event) (s : State) → Only (Spells s.frame n) ((value here t).run script s)
  spells (Node o at stop parts) n e script s = literal_only (action o) at parts n e script s

  -- what a local holds
  abbrev pub Holds : ℕ → ℕ → Frame → Type 0
  Holds l x f = slice_get f.locals l ≡ Some (Some (Int x))

  abbrev pub Stays : Frame → State → Type 0
  Stays f s = s.frame ≡ f

  in_place_only : (l : ℕ) (t : Tree) → acts (is_local l) t ≡ true → (script : List Event) (s : State) → Only (λ u next. Stays s.frame next) ((changed_in_place here (operator_action here t) (at_of t)).run script s)
  unfolding give
  in_place_only l (Node o at stop parts) e script s = subst (λ a. Only (λ u next. Stays s.frame next) ((changed_in_place here a at).run script s)) (sym (same_local l (action o) e)) refl

  set_only : (l at : ℕ) (v : Value) (script : List Event) (s : State) (x : Option Value) → slice_get s.frame.locals l ≡ Some x → (parts : Trees) → Only (λ u next. slice_get next.frame.locals l ≡ Some (Some v)) ((stored here (Local l) at parts v).run script s)
  unfolding ◌>>=◌ tick paid set_local
  set_only l at v script s x e parts = step_only _ s.steps s _ (λ m. set_slot s.frame.locals l x (Some v) e)

  store_only : (l : ℕ) (g : Tree) → acts (is_local l) g ≡ true → (v : Value) (script : List Event) (s : State) (x : Option Value) → slice_get s.frame.locals l ≡ Some x → Only (λ u next. slice_get next.frame.locals l ≡ Some (Some v)) ((store here g v).run script s)
  store_only l (Node o at stop parts) e v script s x h = subst (λ a. Only (λ u next. slice_get next.frame.locals l ≡ Some (Some v)) ((stored here a at parts v).run script s)) (sym (same_local l (action o) e)) (set_only l at v script s x h parts)

  added : (p q : Place) (v u : Value) (x y z : ℕ) → v ≡ Int x → u ≡ Int y → (x + y) % 2 ^ here.width ≡ z → (script : List Event) (s : State) → Only (λ r next. (r ≡ Int z) × Stays s.frame next) ((lift (combined here.width arithmetic.Add p v q u)).run script s)
  unfolding give
  added p q v u x y z e f h script s = subst (λ w. Only (λ r next. (r ≡ Int z) × Stays s.frame next) ((lift (combined here.width arithmetic.Add p w q u)).run script s)) (sym e) (subst (λ w. Only (λ r next. (r ≡ Int z) × Stays s.frame next) ((lift (combined here.width arithmetic.Add p (Int x) q w)).run script s)) (sym f) (ap Int h, refl))

  taken : (p q : Place) (v u : Value) (x y z : ℕ) → v ≡ Int x → u ≡ Int y → (x + (2 ^ 64 - y)) % 2 ^ here.width ≡ z → (script : List Event) (s : State) → Only (λ r next. (r ≡ Int z) × Stays s.frame next) ((lift (combined here.width arithmetic.Subtract p v q u)).run script s)
  unfolding give
  taken p q v u x y z e f h script s = subst (λ w. Only (λ r next. (r ≡ Int z) × Stays s.frame next) ((lift (combined here.width arithmetic.Subtract p w q u)).run script s)) (sym e) (subst (λ w. Only (λ r next. (r ≡ Int z) × Stays s.frame next) ((lift (combined here.width arithmetic.Subtract p (Int x) q w)).run script s)) (sym f) (ap Int h, refl))

  one_value : (slot : Option (Option Value)) (v : Value) (x : ℕ) → slot ≡ Some (Some v) → slot ≡ Some (Some (Int x)) → v ≡ Int x
  one_value slot v x e f = let both : Some (Some v) ≡ Some (Some (Int x)) = sym e ∙ f in cc

  on : (l x : ℕ) (f g : Frame) → g ≡ f → Holds l x f → Holds l x g
  on l x f g e h = ap (λ k. slice_get k.locals l) e ∙ h

  -- the result is stored into the local
  stored_back : (l : ℕ) (g : Tree) → acts (is_local l) g ≡ true → (x z : ℕ) (r : Value) → r ≡ Int z → (script : List Event) (s : State) → Holds l x s.frame → Only (λ o next. Holds l z next.frame) (then_do ((store here g r).run script s) (λ u next. state.Goes (Some r) next))
  stored_back l g e x z r f script s h = then_only (λ u next. slice_get next.frame.locals l ≡ Some (Some r)) _ _ _ (store_only l g e r script s (Some (Int x)) h) (λ u next k. k ∙ ap (λ w. Some (Some w)) f)

  module _ (l : ℕ) (x : ℕ) (script : List Event) (s : State) (holds : Holds l x s.frame) where
    rises_by_one : (at : ℕ) (a : Tree) → acts (is_local l) a ≡ true → (x + 1) % 2 ^ here.width ≡ suc x → Only (λ o next. Holds l (suc x) next.frame) ((act here (ByOne arithmetic.Add) at (more a none)).run script s)
    unfolding ◌>>=◌ give
    rises_by_one at a e h =
        then_only (λ u next. Stays s.frame next) _ _ _ (in_place_only l a e script s) (λ u s1 p.
        then_only (Reads s1.frame (slice_get s1.frame.locals l)) _ _ _ (reads l a e script s1) (λ v s2 q.
        then_only (λ r next. (r ≡ Int (suc x)) × Stays s2.frame next) _ _ _ (added (place here a) (place here a) v (Int 1) x 1 (suc x) (one_value _ v x q.0 (on l x s.frame s1.frame p holds)) refl h script s2) (λ r s3 k.
        stored_back l a e x (suc x) r k.0 script s3 (on l x s2.frame s3.frame k.1 (on l x s1.frame s2.frame q.1 (on l x s.frame s1.frame p holds))))))

    falls_by_one : (at : ℕ) (a : Tree) (y : ℕ) → acts (is_local l) a ≡ true → (x + (2 ^ 64 - 1)) % 2 ^ here.width ≡ y → Only (λ o next. Holds l y next.frame) ((act here (ByOne arithmetic.Subtract) at (more a none)).run script s)
    unfolding ◌>>=◌ give
    falls_by_one at a y e h =
        then_only (λ u next. Stays s.frame next) _ _ _ (in_place_only l a e script s) (λ u s1 p.
        then_only (Reads s1.frame (slice_get s1.frame.locals l)) _ _ _ (reads l a e script s1) (λ v s2 q.
        then_only (λ r next. (r ≡ Int y) × Stays s2.frame next) _ _ _ (taken (place here a) (place here a) v (Int 1) x 1 y (one_value _ v x q.0 (on l x s.frame s1.frame p holds)) refl h script s2) (λ r s3 k.
        stored_back l a e x y r k.0 script s3 (on l x s2.frame s3.frame k.1 (on l x s1.frame s2.frame q.1 (on l x s.frame s1.frame p holds))))))

    rises_left : (at : ℕ) (a b g : Tree) → acts (is_local l) a ≡ true → number_of around.width b ≡ Some 1 → acts (is_local l) g ≡ true → (x + 1) % 2 ^ here.width ≡ suc x → Only (λ o next. Holds l (suc x) next.frame) ((act here (Binary arithmetic.Add) at (more a (more b (more g none)))).run script s)
    unfolding ◌>>=◌ give
    rises_left at a b g e f t h =
        then_only (Reads s.frame (slice_get s.frame.locals l)) _ _ _ (reads l a e script s) (λ v s1 p.
        then_only (Spells s1.frame 1) _ _ _ (spells b 1 f script s1) (λ u s2 q.
        then_only (λ r next. (r ≡ Int (suc x)) × Stays s2.frame next) _ _ _ (added (place here a) (place here b) v u x 1 (suc x) (one_value _ v x p.0 holds) q.0 h script s2) (λ r s3 k.
        stored_back l g t x (suc x) r k.0 script s3 (on l x s2.frame s3.frame k.1 (on l x s1.frame s2.frame q.1 (on l x s.frame s1.frame p.1 holds))))))

    rises_right : (at : ℕ) (a b g : Tree) → number_of around.width a ≡ Some 1 → acts (is_local l) b ≡ true → acts (is_local l) g ≡ true → (1 + x) % 2 ^ here.width ≡ suc x → Only (λ o next. Holds l (suc x) next.frame) ((act here (Binary arithmetic.Add) at (more a (more b (more g none)))).run script s)
    unfolding ◌>>=◌ give
    rises_right at a b g f e t h =
        then_only (Spells s.frame 1) _ _ _ (spells a 1 f script s) (λ u s1 p.
        then_only (Reads s1.frame (slice_get s1.frame.locals l)) _ _ _ (reads l b e script s1) (λ v s2 q.
        then_only (λ r next. (r ≡ Int (suc x)) × Stays s2.frame next) _ _ _ (added (place here a) (place here b) u v 1 x (suc x) p.0 (one_value _ v x q.0 (on l x s.frame s1.frame p.1 holds)) h script s2) (λ r s3 k.
        stored_back l g t x (suc x) r k.0 script s3 (on l x s2.frame s3.frame k.1 (on l x s1.frame s2.frame q.1 (on l x s.frame s1.frame p.1 holds))))))

    falls_left : (at : ℕ) (a b g : Tree) (y : ℕ) → acts (is_local l) a ≡ true → number_of around.width b ≡ Some 1 → acts (is_local l) g ≡ true → (x + (2 ^ 64 - 1)) % 2 ^ here.width ≡ y → Only (λ o next. Holds l y next.frame) ((act here (Binary arithmetic.Subtract) at (more a (more b (more g none)))).run script s)
    unfolding ◌>>=◌ give
    falls_left at a b g y e f t h =
        then_only (Reads s.frame (slice_get s.frame.locals l)) _ _ _ (reads l a e script s) (λ v s1 p.
        then_only (Spells s1.frame 1) _ _ _ (spells b 1 f script s1) (λ u s2 q.
        then_only (λ r next. (r ≡ Int y) × Stays s2.frame next) _ _ _ (taken (place here a) (place here b) v u x 1 y (one_value _ v x p.0 holds) q.0 h script s2) (λ r s3 k.
        stored_back l g t x y r k.0 script s3 (on l x s2.frame s3.frame k.1 (on l x s1.frame s2.frame q.1 (on l x s.frame s1.frame p.1 holds))))))

  one_number : (o : Option ℕ) → is_number 1 o ≡ true → o ≡ Some 1
  one_number (Some m) e = ap Some (eqb-true m 1 e)
  one_number None e = absurd cc

  either_true : (p q : Bool) (K : Type 0) → (p || q) ≡ true → (p ≡ true → K) → (q ≡ true → K) → K
  either_true true q K e f g = f refl
  either_true false q K e f g = g e

  pub risen : (l x : ℕ) → (x + 1) % 2 ^ here.width ≡ suc x → (a : Action) (at : ℕ) (parts : Trees) → rises around.width l a parts ≡ true → (script : List Event) (s : State) → Holds l x s.frame → Only (λ o next. Holds l (suc x) next.frame) ((act here a at parts).run script s)
  risen l x h (ByOne arithmetic.Add) at (more a none) e script s holds = rises_by_one l x script s holds at a e h
  risen l x h (Binary arithmetic.Add) at (more a (more b (more g none))) e script s holds =
      let two = and_parts (acts (is_local l) g) ((acts (is_local l) a && is_one around.width b) || (is_one around.width a && acts (is_local l) b)) e in
      either_true (acts (is_local l) a && is_one around.width b) (is_one around.width a && acts (is_local l) b) _ two.1
      (λ p. let c = and_parts (acts (is_local l) a) (is_one around.width b) p in rises_left l x script s holds at a b g c.0 (one_number _ c.1) two.0 h)
      (λ p. let c = and_parts (is_one around.width a) (acts (is_local l) b) p in rises_right l x script s holds at a b g (one_number _ c.0) c.1 two.0 (let same : 1 + x ≡ x + 1 = omega arith in rw same h))
  risen l x h a at parts e script s holds = absurd cc

  pub fallen : (l x y : ℕ) → (x + (2 ^ 64 - 1)) % 2 ^ here.width ≡ y → (a : Action) (at : ℕ) (parts : Trees) → falls around.width l a parts ≡ true → (script : List Event) (s : State) → Holds l x s.frame → Only (λ o next. Holds l y next.frame) ((act here a at parts).run script s)
  fallen l x y h (ByOne arithmetic.Subtract) at (more a none) e script s holds = falls_by_one l x script s holds at a y e h
  fallen l x y h (Binary arithmetic.Subtract) at (more a (more b (more g none))) e script s holds =
      let two = and_parts (acts (is_local l) g) (acts (is_local l) a && is_one around.width b) e in
      let c = and_parts (acts (is_local l) a) (is_one around.width b) two.1 in
      falls_left l x script s holds at a b g y c.0 (one_number _ c.1) two.0 h
  fallen l x y h a at parts e script s holds = absurd cc

  only_turn : {V : Type 0} (R : V → State → Type 0) (T : State → Type 0) (o : Out V) (f : V → State → Out (Unit {0})) → Only R o → ((v : V) (s : State) → R v s → AtTurn T (f v s)) → AtTurn T (then_do o f)
  only_turn R T (state.Goes v s) f h next = next v s h
  only_turn R T (Halts (Error e) s) f h next = tt
  only_turn R T (Halts (Returned v) s) f h next = absurd h
  only_turn R T (Halts (Broke at) s) f h next = absurd h
  only_turn R T (Halts (Continued at) s) f h next = absurd h
  only_turn R T (NoAnswer s) f h next = tt
  only_turn R T (Spent s) f h next = tt

  kept_turn : {V : Type 0} (l x : ℕ) (T : State → Type 0) (s : State) (o : Out V) (f : V → State → Out (Unit {0})) → Tame (Some l) false s o → Holds l x s.frame → ((v : V) (next : State) → Holds l x next.frame → AtTurn T (f v next)) → AtTurn T (then_do o f)
  kept_turn l x T s (state.Goes v next) f h holds g = g v next (h ∙ holds)
  kept_turn l x T s (Halts (Error e) next) f h holds g = tt
  kept_turn l x T s (Halts (Returned v) next) f h holds g = tt
  kept_turn l x T s (Halts (Broke at) next) f h holds g = tt
  kept_turn l x T s (Halts (Continued at) next) f h holds g = absurd (let bad : false ≡ true = h.1 in cc)
  kept_turn l x T s (NoAnswer next) f h holds g = tt
  kept_turn l x T s (Spent next) f h holds g = tt

  kept_end : (l y : ℕ) (s : State) (o : Out (Unit {0})) → Tame (Some l) true s o → Holds l y s.frame → AtTurn (λ next. Holds l y next.frame) o
  kept_end l y s (state.Goes v next) h holds = h ∙ holds
  kept_end l y s (Halts (Error e) next) h holds = tt
  kept_end l y s (Halts (Returned v) next) h holds = tt
  kept_end l y s (Halts (Broke at) next) h holds = tt
  kept_end l y s (Halts (Continued at) next) h holds = h.0 ∙ holds
  kept_end l y s (NoAnswer next) h holds = tt
  kept_end l y s (Spent next) h holds = tt

  pub not_true : (b : Bool) → not b ≡ true → b ≡ false
  not_true true e = absurd cc
  not_true false e = refl

  module _ (tame : AreTame here.call) (moves : ℕ → Action → Trees → Bool) (l x y : ℕ) (moved : (a : Action) (at : ℕ) (parts : Trees) → moves l a parts ≡ true → (script : List Event) (s : State) → Holds l x s.frame → Only (λ o next. Holds l y next.frame) ((act here a at parts).run script s)) (script : List Event) where
    -- a turn moves the local, wherever it ends
    pub one_turn : (ts : Trees) → steps moves l ts ≡ true → (s : State) → Holds l x s.frame → AtTurn (λ next. Holds l y next.frame) ((mean_all here ts).run script s)
    unfolding ◌>>=◌ tick paid
    one_turn none e s holds = absurd cc
    one_turn (more (Node o at stop parts) ts) e s holds = choice (moves l (action o) parts) refl e (λ k next h. one_turn ts k next h)
      where
        choice : (b : Bool) → moves l (action o) parts ≡ b → (if b then not (assigns_in (is_local l) ts) else not (assigns (is_local l) (Node o at stop parts)) && (not (continues (Node o at stop parts)) && steps moves l ts)) ≡ true → (steps moves l ts ≡ true → (next : State) → Holds l x next.frame → AtTurn (λ next. Holds l y next.frame) ((mean_all here ts).run script next)) → AtTurn (λ next. Holds l y next.frame) ((mean_all here (more (Node o at stop parts) ts)).run script s)
        choice true b k again = only_turn (λ v next. Holds l y next.frame) _ _ _ (step_only _ s.steps s _ (λ m. moved (action o) at parts b script (with_steps s m) holds)) (λ v next h.
            kept_end l y next _ (all_tame here tame (Some l) true ts (are_calm (Some l) true ts (not_true _ k) (λ f. absurd cc)) script next) h)
        choice false b k again =
            let two = and_parts (not (assigns (is_local l) (Node o at stop parts))) (not (continues (Node o at stop parts)) && steps moves l ts) k in
            let three = and_parts (not (continues (Node o at stop parts))) (steps moves l ts) two.1 in
            kept_turn l x _ s _ _ (term_tame here tame (Some l) false (Node o at stop parts) (calm (Some l) false (Node o at stop parts) (not_true _ two.0) (λ f. not_true _ three.0)) script s) holds (λ v next h. again three.1 next h)

  -- a body whose last statement is Break or Return, and in which no Continue stands, never ends its turn
  abbrev NoGoes : {V : Type 0} → Out V → Type 0
  NoGoes (state.Goes v s) = ⊥
  NoGoes (Halts stop s) = Unit {0}
  NoGoes (NoAnswer s) = Unit {0}
  NoGoes (Spent s) = Unit {0}

  then_no : {V W : Type 0} (o : Out V) (f : V → State → Out W) → ((v : V) (s : State) → NoGoes (f v s)) → NoGoes (then_do o f)
  then_no (state.Goes v s) f h = h v s
  then_no (Halts stop s) f h = tt
  then_no (NoAnswer s) f h = tt
  then_no (Spent s) f h = tt

  leave_act : (a : Action) (at : ℕ) (parts : Trees) → is_leave a ≡ true → (script : List Event) (s : State) → NoGoes ((act here a at parts).run script s)
  unfolding ◌>>=◌ stop_with
  leave_act Break at parts e script s = tt
  leave_act Return at (more a none) e script s = then_no ((value here a).run script s) (λ v next. then_do ((none_held here.table at).run script next) (λ u last. (stop_with {V = Option Value} (Returned v)).run script last)) (λ v next. then_no ((none_held here.table at).run script next) (λ u last. (stop_with {V = Option Value} (Returned v)).run script last) (λ u last. tt))
  leave_act Return at none e script s = tt
  leave_act Return at (more a (more b ts)) e script s = tt
  leave_act a at parts e script s = absurd cc

  leave_mean : (t : Tree) → acts is_leave t ≡ true → (script : List Event) (s : State) → NoGoes ((mean here t).run script s)
  unfolding ◌>>=◌ tick paid
  leave_mean (Node o at stop parts) e script s = then_no (tick.run script s) (λ u next. (act here (action o) at parts).run script next) (λ u next. leave_act (action o) at parts e script next)

  never_turn : {V : Type 0} (s : State) (o : Out V) (f : V → State → Out (Unit {0})) → NoGoes o → Tame None false s o → AtTurn (λ n. ⊥) (then_do o f)
  never_turn s (state.Goes v next) f h g = absurd h
  never_turn s (Halts (Error e) next) f h g = tt
  never_turn s (Halts (Returned v) next) f h g = tt
  never_turn s (Halts (Broke at) next) f h g = tt
  never_turn s (Halts (Continued at) next) f h g = absurd (let bad : false ≡ true = g.1 in cc)
  never_turn s (NoAnswer next) f h g = tt
  never_turn s (Spent next) f h g = tt

  later_turn : {V : Type 0} (s : State) (o : Out V) (f : V → State → Out (Unit {0})) → Tame None false s o → ((v : V) (next : State) → AtTurn (λ n. ⊥) (f v next)) → AtTurn (λ n. ⊥) (then_do o f)
  later_turn s (state.Goes v next) f g h = h v next
  later_turn s (Halts (Error e) next) f g h = tt
  later_turn s (Halts (Returned v) next) f g h = tt
  later_turn s (Halts (Broke at) next) f g h = tt
  later_turn s (Halts (Continued at) next) f g h = absurd (let bad : false ≡ true = g.1 in cc)
  later_turn s (NoAnswer next) f g h = tt
  later_turn s (Spent next) f g h = tt

  module _ (tame : AreTame here.call) (script : List Event) where
    pub no_turn : (ts : Trees) → AreCalm None false ts → leaves ts ≡ true → (s : State) → AtTurn (λ n. ⊥) ((mean_all here ts).run script s)
    unfolding ◌>>=◌
    no_turn none h e s = absurd cc
    no_turn (more t none) h e s = never_turn s _ _ (leave_mean t e script s) (term_tame here tame None false t h.0 script s)
    no_turn (more t (more u ts)) h e s = later_turn s _ _ (term_tame here tame None false t h.0 script s) (λ v next. no_turn (more u ts) h.1 e next)

-- nothing is watched, so nothing is a target
acts_never : (t : Tree) → acts (watching None) t ≡ false
acts_never (Node o at stop parts) = refl

or_false : (a b : Bool) → a ≡ false → b ≡ false → (a || b) ≡ false
or_false true b e f = absurd cc
or_false false b e f = f

targets_never : (a : Action) (parts : Trees) → targets (watching None) a parts ≡ false
targets_never (Binary f) (more a (more b (more g none))) = acts_never g
targets_never (Unary f) (more a (more g none)) = acts_never g
targets_never (ByOne f) (more a none) = acts_never a
targets_never Divide (more a (more b (more r (more q none)))) = or_false (acts (watching None) r) (acts (watching None) q) (acts_never r) (acts_never q)
targets_never (Convert f) (more a (more g none)) = acts_never g
targets_never Concatenate (more a (more b (more g none))) = acts_never g
targets_never Store (more a (more g none)) = acts_never g
targets_never CondRefOf (more a (more g none)) = acts_never g
targets_never Index (more x (more i (more g none))) = acts_never g
targets_never a parts = refl

and_false : (a b : Bool) → b ≡ false → (a && b) ≡ false
and_false true b e = e
and_false false b e = refl

lettered_never : (letters : List Letter) (parts : Trees) → lettered (watching None) letters parts ≡ false
lettered_never letters none = refl
lettered_never [] (more t ts) = refl
lettered_never (l ∷ letters) (more t ts) = or_false (is_target l && acts (watching None) t) (lettered (watching None) letters ts) (and_false (is_target l) (acts (watching None) t) (acts_never t)) (lettered_never letters ts)

outside_never : (a : Action) (o : Op) (parts : Trees) → outside_targets (watching None) a o parts ≡ false
outside_never Unwritten o parts = lettered_never (letters_of o) parts
outside_never a o parts = refl

mutual
  assigns_never : (t : Tree) → assigns (watching None) t ≡ false
  assigns_never (Node o at stop parts) =
      or_false (targets (watching None) (action o) parts || outside_targets (watching None) (action o) o parts) (assigns_in (watching None) parts)
      (or_false (targets (watching None) (action o) parts) (outside_targets (watching None) (action o) o parts) (targets_never (action o) parts) (outside_never (action o) o parts)) (assign_never parts)

  pub assign_never : (ts : Trees) → assigns_in (watching None) ts ≡ false
  assign_never none = refl
  assign_never (more t ts) = or_false (assigns (watching None) t) (assigns_in (watching None) ts) (assigns_never t) (assign_never ts)
