-- Terms keep a local that is no target in them, and end a turn only by a Continue that stands in them.
use Rattle.std.proofs.Common.{◌≡◌, ℕ, zero, suc, List, [], ◌∷◌, Option, Some, None, Result, Ok, Err, refl, ap, ◌∙◌, subst, arith}
use Rattle.std.specs.Prelude.{Bool, true, false, ◌==◌, if◌then◌else◌, slice_get, slice_set, nat_le, length, ◌||◌}
use Rattle.std.proofs.lemmas.Bool.{or_parts}
use Rattle.std.proofs.lemmas.Bool.Decides.{nat_tests}
use Rattle.aml_operators.specs.declared.op.Op.{Op}
use Rattle.aml_operators.specs.declared.op.Op.TheVariants as op
use Rattle.aml_operators.specs.Shape.{operator_of}
use Rattle.aml_operators.specs.Tree.{Tree, Trees, Node, none, more}
use Rattle.aml_namespace.specs.declared.link.Link.{Link}
use Rattle.aml_namespace.specs.declared.link.Link.TheVariants as link
use Rattle.aml_values.specs.Values.{Value}
use Rattle.aml_contents.specs.Contents.{Contents, content_at}
use Rattle.aml_regions.specs.Events.{Event, Read, Written, Notified, Slept, Stalled}
use Rattle.aml_meaning.specs.declared.error.AmlError.{AmlError}
use Rattle.aml_meaning.specs.declared.error.AmlCause.{AmlCause}
use Rattle.aml_meaning.specs.declared.error.AmlCause.TheVariants as why
use Rattle.aml_meaning.specs.declared.action.Action.{Action}
use Rattle.aml_meaning.specs.declared.action.Action.TheVariants.{Acquire, Release, Literal, Data, Local, Argument, Name, Binary, Unary, ByOne, Compare, LNot, Divide, Convert, Concatenate, SizeOf, Dereference, Index, CondRefOf, Store, Return, If, While, Break, Continue, Nothing, Invoke, NoTarget, Debug, Notify, Pause, Unwritten}
use Rattle.aml_meaning.specs.State as state
use Rattle.aml_meaning.specs.State.{State, Frame, held_level, Stop, Error, Returned, Broke, Continued, error, Out, Halts, NoAnswer, Spent, with_steps}
use Rattle.aml_meaning.specs.Parts.{M, ◌>>=◌, give, stop_with, lift, tick, paid, take_step, then_do, get_local, get_arg, get_name, set_local, set_arg, set_name, make_event, sleep, woken, woken_or, content_or, stored_or, may_store}
use Rattle.aml_meaning.specs.Loops.{turned, turn_end, turns, loop, spent}
use Rattle.aml_meaning.specs.Rules.{Place, integer, divided}
use Rattle.aml_meaning.specs.Meaning.{mutex, mutex_named, mutex_numbered, Setting, at_of, act, mean, value, values, mean_all, block, otherwise, is_else, want, store, stored, put, named, named_seen, named_target, invoked, interface_asked, held, field_read, bits_stored, field_stored, buffer_field_read, buffer_field_changed, own_read, own_held, own_changed, own_stored, own_measured, own_seen, seen, measured, size, asked, condition, untargeted, refused, bound, name_indexed, indexed, notified_name, notified, dereferenced, led, data_unless, tested, gives_value, changed_in_place, operator_action, place, place_at, outside}
use Rattle.aml_bounds.specs.Shapes.{is_local, acts, targets, assigns, assigns_in, is_continue, continues, continues_by, continues_in, outside_targets}
use Rattle.aml_meaning.specs.Actions.{action}
use Rattle.aml_meaning.specs.Owns.{get_own, own_field, own_stored_or, set_own}
use Rattle.aml_meaning.specs.Changes.{change, changed_or, held_by, holding, peek, peeked_or}
use Rattle.aml_meaning.specs.BufferFields.{read_buffer_field, usable_buffer_field, wanted_buffer_field, written_buffer_field}
use Rattle.aml_meaning.specs.FieldValues.{given_bits, wanted_field}
use Rattle.aml_meaning.specs.Fields.{read_value, write_bits, read_count, write_count}
use Rattle.aml_meaning.specs.Notices.{notice, paused}
use Rattle.aml_meaning.specs.Mutexes.{acquire, acquired_or, ended_or, if_watched, none_held, release, released_or, without_last}
use Rattle.aml_meaning.specs.declared.mutex.TakenMutex.{TakenMutex}
use Rattle.aml_meaning.specs.declared.action.Pause.{Pause as PauseKind}
use Rattle.aml_meaning.specs.declared.action.Pause.TheVariants as pause
use Rattle.aml_objects.specs.declared.object.Object.{Object}
use Rattle.aml_objects.specs.declared.object.Object.TheVariants as object
use Rattle.aml_meaning.specs.Elements.{byte_written, element_at}
use Rattle.aml_meaning.specs.Buffers.{size_of}
use Rattle.aml_meaning.specs.Interfaces.{answered}
use Rattle.aml_meaning.specs.declared.buffer_field.BufferField.{BufferField}
use Rattle.aml_regions.specs.declared.field.AnyField.{AnyField}
use Rattle.aml_regions.specs.Fields.{layout_of}
use Rattle.aml_contents.specs.BodyData.{computed_size}
use Rattle.aml_paths.specs.declared.scope.ObjectId.{ObjectId}
use Rattle.aml_judged.specs.Events.{Costs}
use Rattle.aml_judged.specs.Keeps.{IsKept, TermsKeepLocals}
use Rattle.aml_judged.proofs.Events.{fields_cost}
use Rattle.aml_judged.specs.Safe.{IsTame, AreTame}

-- a local that is watched, or none
abbrev pub watching : Option ℕ → Action → Bool
watching None a = false
watching (Some l) a = is_local l a

abbrev pub Kept : Option ℕ → Frame → Frame → Type 0
Kept None f g = Unit {0}
Kept (Some l) f g = slice_get g.locals l ≡ slice_get f.locals l

pub kept_same : (w : Option ℕ) (f g : Frame) → g ≡ f → Kept w f g
kept_same None f g e = tt
kept_same (Some l) f g e = ap (λ x. slice_get x.locals l) e

kept_locals : (w : Option ℕ) (f g : Frame) → g.locals ≡ f.locals → Kept w f g
kept_locals None f g e = tt
kept_locals (Some l) f g e = ap (λ x. slice_get x l) e

kept_on : (w : Option ℕ) (f g h : Frame) → Kept w f g → Kept w g h → Kept w f h
kept_on None f g h p q = tt
kept_on (Some l) f g h p q = q ∙ p

abbrev pub Tame : {V : Type 0} → Option ℕ → Bool → State → Out V → Type 0
Tame w c before (state.Goes v s) = Kept w before.frame s.frame
Tame w c before (Halts (Error e) s) = Unit {0}
Tame w c before (Halts (Returned v) s) = Unit {0}
Tame w c before (Halts (Broke at) s) = Kept w before.frame s.frame
Tame w c before (Halts (Continued at) s) = Kept w before.frame s.frame × (c ≡ true)
Tame w c before (NoAnswer s) = Unit {0}
Tame w c before (Spent s) = Unit {0}

abbrev pub AlwaysTame : {V : Type 0} → Option ℕ → Bool → M V → Type 0
AlwaysTame w c m = (script : List Event) (s : State) → Tame w c s (m.run script s)

module _ (w : Option ℕ) where
  abbrev mutual
    pub Calm : Bool → Tree → Type 0
    Calm c (Node o at stop parts) = (targets (watching w) (action o) parts ≡ false) × (c ≡ false → is_continue (action o) ≡ false) × CalmBy c (action o) parts

    pub CalmBy : Bool → Action → Trees → Type 0
    CalmBy c While (more t body) = Calm c t × AreCalm true body
    CalmBy c a none = Unit {0}
    CalmBy c a (more t ts) = Calm c t × AreCalm c ts

    pub AreCalm : Bool → Trees → Type 0
    AreCalm c none = Unit {0}
    AreCalm c (more t ts) = Calm c t × AreCalm c ts

  mutual
    pub calm : (c : Bool) (t : Tree) → assigns (watching w) t ≡ false → (c ≡ false → continues t ≡ false) → Calm c t
    calm c (Node o at stop parts) a k =
        let a2 = or_parts (targets (watching w) (action o) parts || outside_targets (watching w) (action o) o parts) (assigns_in (watching w) parts) a in
        let own = or_parts (targets (watching w) (action o) parts) (outside_targets (watching w) (action o) o parts) a2.0 in
        (own.0, (λ e. (or_parts (is_continue (action o)) (continues_by (action o) parts) (k e)).0), calm_by c (action o) parts a2.1 (λ e. (or_parts (is_continue (action o)) (continues_by (action o) parts) (k e)).1))

    calm_by : (c : Bool) (a : Action) (parts : Trees) → assigns_in (watching w) parts ≡ false → (c ≡ false → continues_by a parts ≡ false) → CalmBy c a parts
    calm_by c While (more t body) a k =
        let a2 = or_parts (assigns (watching w) t) (assigns_in (watching w) body) a in
        (calm c t a2.0 k, are_calm true body a2.1 (λ e. absurd cc))
    calm_by c b none a k = tt
    calm_by c b (more t ts) a k =
        let a2 = or_parts (assigns (watching w) t) (assigns_in (watching w) ts) a in
        (calm c t a2.0 (λ e. (or_parts (continues t) (continues_in ts) (k e)).0), are_calm c ts a2.1 (λ e. (or_parts (continues t) (continues_in ts) (k e)).1))

    pub are_calm : (c : Bool) (ts : Trees) → assigns_in (watching w) ts ≡ false → (c ≡ false → continues_in ts ≡ false) → AreCalm c ts
    are_calm c none a k = tt
    are_calm c (more t ts) a k =
        let a2 = or_parts (assigns (watching w) t) (assigns_in (watching w) ts) a in
        (calm c t a2.0 (λ e. (or_parts (continues t) (continues_in ts) (k e)).0), are_calm c ts a2.1 (λ e. (or_parts (continues t) (continues_in ts) (k e)).1))

module _ (w : Option ℕ) where
  tame_after : {V : Type 0} (c : Bool) (s next : State) (o : Out V) → Kept w s.frame next.frame → Tame w c next o → Tame w c s o
  tame_after c s next (state.Goes v last) k h = kept_on w s.frame next.frame last.frame k h
  tame_after c s next (Halts (Error e) last) k h = tt
  tame_after c s next (Halts (Returned v) last) k h = tt
  tame_after c s next (Halts (Broke at) last) k h = kept_on w s.frame next.frame last.frame k h
  tame_after c s next (Halts (Continued at) last) k h = (kept_on w s.frame next.frame last.frame k h.0, h.1)
  tame_after c s next (NoAnswer last) k h = tt
  tame_after c s next (Spent last) k h = tt

  then_tame : {V W : Type 0} (c : Bool) (s : State) (o : Out V) (f : V → State → Out W) → Tame w c s o → ((v : V) (next : State) → Tame w c next (f v next)) → Tame w c s (then_do o f)
  then_tame c s (state.Goes v next) f h g = tame_after c s next (f v next) h (g v next)
  then_tame c s (Halts (Error e) last) f h g = tt
  then_tame c s (Halts (Returned v) last) f h g = tt
  then_tame c s (Halts (Broke at) last) f h g = h
  then_tame c s (Halts (Continued at) last) f h g = h
  then_tame c s (NoAnswer last) f h g = tt
  then_tame c s (Spent last) f h g = tt

  both_tame : {V W : Type 0} (c : Bool) (m : M V) (f : V → M W) → AlwaysTame w c m → ((v : V) → AlwaysTame w c (f v)) → AlwaysTame w c (m >>= f)
  unfolding ◌>>=◌
  both_tame c m f h g script s = then_tame c s (m.run script s) _ (h script s) (λ v next. g v script next)

  give_tame : {V : Type 0} (c : Bool) (v : V) → AlwaysTame w c (give v)
  unfolding give
  give_tame c v script s = kept_same w s.frame s.frame refl

  error_tame : (V : Type 0) (c : Bool) (e : AmlError) → AlwaysTame w c (stop_with {V = V} (Error e))
  unfolding stop_with
  error_tame V c e script s = tt

  lift_tame : {V : Type 0} (c : Bool) (r : Result V AmlError) → AlwaysTame w c (lift r)
  lift_tame c (Ok v) = give_tame c v
  lift_tame c (Err e) = error_tame _ c e

  step_tame : {V : Type 0} (c : Bool) (n : ℕ) (s : State) (f : State → Out V) → ((k : ℕ) → Tame w c s (f (with_steps s k))) → Tame w c s (take_step n s f)
  step_tame c zero s f h = tt
  step_tame c (suc n) s f h = h n

  tick_tame : (c : Bool) → AlwaysTame w c tick
  unfolding tick paid
  tick_tame c script s = step_tame c s.steps s _ (λ k. kept_same w s.frame s.frame refl)

  stepped_out : (V : Type 0) (c : Bool) (e : AmlError) → AlwaysTame w c (tick >>= (λ u. stop_with {V = V} (Error e)))
  stepped_out V c e = both_tame c tick _ (tick_tame c) (λ u. error_tame V c e)

  content_tame : (c : Bool) (table at : ℕ) (slot : Option (Option Value)) (s : State) → Tame w c s (content_or table at slot s)
  content_tame c table at (Some (Some v)) s = kept_same w s.frame s.frame refl
  content_tame c table at (Some None) s = tt
  content_tame c table at None s = tt

  local_tame : (c : Bool) (table at k : ℕ) → AlwaysTame w c (get_local table at k)
  unfolding get_local
  local_tame c table at k script s = content_tame c table at _ s

  arg_tame : (c : Bool) (table at k : ℕ) → AlwaysTame w c (get_arg table at k)
  unfolding get_arg
  arg_tame c table at k script s = content_tame c table at _ s

  name_tame : (c : Bool) (table at k : ℕ) → AlwaysTame w c (get_name table at k)
  unfolding get_name
  name_tame c table at k script s = content_tame c table at (Some (content_at s.names.contents k)) s

  set_arg_tame : (c : Bool) (k : ℕ) (v : Value) → AlwaysTame w c (set_arg k v)
  unfolding set_arg
  set_arg_tame c k v script s = kept_locals w s.frame _ refl

  stored_tame_by : (c b : Bool) (table at k : ℕ) (v : Value) (s : State) (before : State) → s.frame ≡ before.frame → Tame w c before (stored_or b table at k v s)
  stored_tame_by c true table at k v s before e = kept_same w before.frame s.frame e
  stored_tame_by c false table at k v s before e = tt

  set_name_tame : (c : Bool) (table at k : ℕ) (v : Value) → AlwaysTame w c (set_name table at k v)
  unfolding set_name paid
  set_name_tame c table at k v script s = step_tame c s.steps s _ (λ n. stored_tame_by c (may_store s.names.kinds k v) table at k v (with_steps s n) s refl)

  -- names of the method's own and fields of buffers: locals stay
  get_own_tame : (c : Bool) (table at k : ℕ) → AlwaysTame w c (get_own table at k)
  unfolding get_own
  get_own_tame c table at k script s = content_tame c table at (Some (content_at s.frame.owns.contents k)) s

  own_field_tame : (c : Bool) (k : ℕ) → AlwaysTame w c (own_field k)
  unfolding own_field
  own_field_tame c k script s = kept_same w s.frame s.frame refl

  own_stored_tame_by : (c b : Bool) (table at k : ℕ) (v : Value) (s before : State) → s.frame ≡ before.frame → Tame w c before (own_stored_or b table at k v s)
  own_stored_tame_by c true table at k v s before e = kept_locals w before.frame _ (ap (λ f. f.locals) e)
  own_stored_tame_by c false table at k v s before e = tt

  set_own_tame : (c : Bool) (table at k : ℕ) (v : Value) → AlwaysTame w c (set_own table at k v)
  unfolding set_own paid
  set_own_tame c table at k v script s = step_tame c s.steps s _ (λ n. own_stored_tame_by c (may_store s.frame.owns.kinds k v) table at k v (with_steps s n) s refl)

  peeked_tame : (c : Bool) (s : State) (r : Result Value AmlError) → Tame w c s (peeked_or s r)
  peeked_tame c s (Ok v) = kept_same w s.frame s.frame refl
  peeked_tame c s (Err e) = tt

  peek_tame : (c : Bool) (l : Link) (rule : Option Value → Result Value AmlError) → AlwaysTame w c (peek l rule)
  unfolding peek
  peek_tame c l rule script s = peeked_tame c s (rule (held_by l s))

  held_locals : (l : Link) (s : State) (v : Value) → (holding l s v).frame.locals ≡ s.frame.locals
  held_locals (link.Method id) s v = refl
  held_locals link.OsInterfaces s v = refl
  held_locals (link.Data id) s v = refl
  held_locals (link.Field id) s v = refl
  held_locals (link.BufferField id) s v = refl
  held_locals (link.Object id) s v = refl
  held_locals (link.Own k) s v = refl
  held_locals link.Missing s v = refl

  changed_tame : (c : Bool) (l : Link) (s before : State) (r : Result Value AmlError) → s.frame ≡ before.frame → Tame w c before (changed_or l s r)
  changed_tame c l s before (Ok v) e = kept_locals w before.frame (holding l s v).frame (held_locals l s v ∙ ap (λ f. f.locals) e)
  changed_tame c l s before (Err x) e = tt

  change_tame : (c : Bool) (l : Link) (rule : Option Value → Result Value AmlError) → AlwaysTame w c (change l rule)
  unfolding change paid
  change_tame c l rule script s = step_tame c s.steps s _ (λ n. changed_tame c l (with_steps s n) s (rule (held_by l (with_steps s n))) refl)

  -- events
  make_event_tame : (c : Bool) (event : Event) → AlwaysTame w c (make_event event)
  unfolding make_event paid
  make_event_tame c event script s = step_tame c s.steps s _ (λ n. kept_same w s.frame s.frame refl)

  woken_tame_by : (c b : Bool) (n : ℕ) (left : Option Contents) (s before : State) → s.frame ≡ before.frame → Tame w c before (woken_or b n left s)
  woken_tame_by c true n left s before e = kept_same w before.frame s.frame e
  woken_tame_by c false n left s before e = tt

  woken_tame : (c : Bool) (n : ℕ) (event : Option Event) (s before : State) → s.frame ≡ before.frame → Tame w c before (woken n event s)
  woken_tame c n (Some (Read access v)) s before e = tt
  woken_tame c n (Some (Written access v)) s before e = tt
  woken_tame c n (Some (Notified object v)) s before e = tt
  woken_tame c n (Some (Slept m left)) s before e = woken_tame_by c (n == m) n left s before e
  woken_tame c n (Some (Stalled v)) s before e = tt
  woken_tame c n None s before e = tt

  sleep_tame : (c : Bool) (n : ℕ) → AlwaysTame w c (sleep n)
  unfolding sleep paid
  sleep_tame c n script s = step_tame c s.steps s _ (λ k. woken_tame c n (slice_get script (length s.log)) (with_steps s k) s refl)

  paused_tame : (c : Bool) (f : PauseKind) (n : ℕ) → AlwaysTame w c (paused f n)
  paused_tame c pause.Sleep n = sleep_tame c n
  paused_tame c pause.Stall n = make_event_tame c (Stalled n)

  -- mutexes: locals stay
  ended_tame : (c : Bool) (held : List TakenMutex) (table at : ℕ) (s : State) → Tame w c s (ended_or held table at s)
  ended_tame c [] table at s = kept_same w s.frame s.frame refl
  ended_tame c (m ∷ ms) table at s = tt

  watched_tame : (c b : Bool) (s : State) (o : Out (Unit {0})) → Tame w c s o → Tame w c s (if_watched b s o)
  watched_tame c true s o h = h
  watched_tame c false s o h = kept_same w s.frame s.frame refl

  none_held_tame : (c : Bool) (table at : ℕ) → AlwaysTame w c (none_held table at)
  unfolding none_held
  none_held_tame c table at script s = watched_tame c s.frame.watched s _ (ended_tame c s.frame.held table at s)

  acquired_tame : (c may : Bool) (table at : ℕ) (m : TakenMutex) (s : State) → Tame w c s (acquired_or may table at m s)
  acquired_tame c true table at m s = kept_locals w s.frame _ refl
  acquired_tame c false table at m s = tt

  acquire_tame : (c : Bool) (table at : ℕ) (m : TakenMutex) → AlwaysTame w c (acquire table at m)
  unfolding acquire
  acquire_tame c table at m script s = watched_tame c s.frame.watched s _ (acquired_tame c (nat_le (held_level s.frame) m.level) table at m s)

  released_tame : (c : Bool) (held : Option (List TakenMutex)) (table at : ℕ) (s : State) → Tame w c s (released_or held table at s)
  released_tame c (Some held) table at s = kept_locals w s.frame _ refl
  released_tame c None table at s = tt

  release_tame : (c : Bool) (table at : ℕ) (m : TakenMutex) → AlwaysTame w c (release table at m)
  unfolding release
  release_tame c table at m script s = watched_tame c s.frame.watched s _ (released_tame c (without_last m.object.0 s.frame.held) table at s)

  cost_tame : {V : Type 0} (c : Bool) (n : ℕ) (s : State) (o : Out V) → Costs n s o → Tame w c s o
  cost_tame c n s (state.Goes v last) h = kept_same w s.frame last.frame h.1
  cost_tame c n s (Halts stop last) h = absurd h
  cost_tame c n s (NoAnswer last) h = tt
  cost_tame c n s (Spent last) h = tt

  read_value_tame : (c : Bool) (width : ℕ) (f : AnyField) → AlwaysTame w c (read_value width f)
  read_value_tame c width f script s = cost_tame c (read_count f) s _ (fields_cost.read width f script s)

  write_bits_tame : (c : Bool) (f : AnyField) (bit : ℕ → ℕ) → AlwaysTame w c (write_bits f bit)
  write_bits_tame c f bit script s = cost_tame c (write_count f) s _ (fields_cost.write f bit script s)

other_slot : (vs : List (Option Value)) (k l : ℕ) (v : Option Value) → (k == l) ≡ false → slice_get (slice_set vs k v) l ≡ slice_get vs l
other_slot [] k l v e = refl
other_slot (x ∷ vs) zero zero v e = absurd cc
other_slot (x ∷ vs) zero (suc l) v e = refl
other_slot (x ∷ vs) (suc k) zero v e = refl
other_slot (x ∷ vs) (suc k) (suc l) v e = other_slot vs k l v (let d : (k ≡ l → ⊥) = λ same. absurd (let bad : (suc k == suc l) ≡ true = grind (arith, nat_tests) in cc) in grind (arith, nat_tests))

set_local_tame : (w : Option ℕ) (c : Bool) (k : ℕ) (v : Value) → watching w (Local k) ≡ false → AlwaysTame w c (set_local k v)
unfolding set_local
set_local_tame None c k v e script s = tt
set_local_tame (Some l) c k v e script s = other_slot s.frame.locals k l (Some v) e

module _ (w : Option ℕ) where
  choice_tame : {V : Type 0} (c b : Bool) (m n : M V) → AlwaysTame w c m → AlwaysTame w c n → AlwaysTame w c (if b then m else n)
  choice_tame c true m n h g = h
  choice_tame c false m n h g = g

  turn_tame : (c : Bool) (s : State) (o : Out (Unit {0})) (rest : State → Out (Unit {0})) → Tame w true s o → ((next : State) → Tame w c next (rest next)) → Tame w c s (turn_end o rest)
  turn_tame c s (state.Goes v next) rest h g = tame_after w c s next (rest next) h (g next)
  turn_tame c s (Halts (Error e) next) rest h g = tt
  turn_tame c s (Halts (Returned v) next) rest h g = tt
  turn_tame c s (Halts (Broke at) next) rest h g = h
  turn_tame c s (Halts (Continued at) next) rest h g = tame_after w c s next (rest next) h.0 (g next)
  turn_tame c s (NoAnswer next) rest h g = tt
  turn_tame c s (Spent next) rest h g = tt

  turned_tame : (c : Bool) (body rest : M (Unit {0})) → AlwaysTame w true body → AlwaysTame w c rest → AlwaysTame w c (turned body rest)
  unfolding turned
  turned_tame c body rest h g script s = turn_tame c s (body.run script s) (rest.run script) (h script s) (g script)

  spent_tame : (c : Bool) → AlwaysTame w c spent
  unfolding spent
  spent_tame c script s = tt

  turns_tame : (c : Bool) (n : ℕ) (test : M ℕ) (body : M (Unit {0})) → AlwaysTame w c test → AlwaysTame w true body → AlwaysTame w c (turns n test body)
  turns_tame c zero test body h g = spent_tame c
  turns_tame c (suc n) test body h g = both_tame w c test _ h (λ v. choice_tame c (v == 0) (give tt) (turned body (turns n test body)) (give_tame w c tt) (turned_tame c body (turns n test body) g (turns_tame c n test body h g)))

  loop_tame : (c : Bool) (test : M ℕ) (body : M (Unit {0})) → AlwaysTame w c test → AlwaysTame w true body → AlwaysTame w c (loop test body)
  unfolding loop
  loop_tame c test body h g script s = turns_tame c (suc s.steps) test body h g script s

-- an Else has no meaning of its own
pub else_action : (o : Op) → is_else o ≡ true → action o ≡ Unwritten
else_action op.Else e = refl
else_action o e = absurd cc

module _ (here : Setting) (tame : AreTame here.call) (w : Option ℕ) where
  outside_tame : (V : Type 0) (c : Bool) (at : ℕ) → AlwaysTame w c (outside here {V = V} at)
  outside_tame V c at = error_tame w V c (record { table = here.table; at = at; cause = why.Outside })

  refused_tame : (V : Type 0) (c : Bool) (cause : AmlCause) (at : ℕ) → AlwaysTame w c (refused here {V = V} cause at)
  refused_tame V c cause at = stepped_out w V c (record { table = here.table; at = at; cause = cause })

  want_tame : (c : Bool) (at : ℕ) (v : Option Value) → AlwaysTame w c (want here at v)
  want_tame c at (Some v) = give_tame w c v
  want_tame c at None = error_tame w Value c _

  data_tame : (c : Bool) (from : Option ℕ) (v : Value) → AlwaysTame w c (data_unless here from v)
  data_tame c None v = give_tame w c _
  data_tame c (Some from) v = outside_tame (Option Value) c from

  held_tame : (c : Bool) (k at : ℕ) → AlwaysTame w c (held here k at)
  held_tame c k at = both_tame w c _ _ (name_tame w c here.table at k) (λ v. give_tame w c _)

  field_read_tame : (c : Bool) (k at : ℕ) → AlwaysTame w c (field_read here k at)
  field_read_tame c k at = both_tame w c _ _ (lift_tame w c (wanted_field (place_at here at) (here.field k))) (λ f. both_tame w c _ _ (read_value_tame w c here.width f) (λ v. give_tame w c _))

  bits_stored_tame : (c : Bool) (at : ℕ) (f : AnyField) (v : Value) → AlwaysTame w c (bits_stored here at f v)
  bits_stored_tame c at f v = both_tame w c _ _ (lift_tame w c (given_bits here.width (place_at here at) (layout_of f).bits v)) (λ bit. write_bits_tame w c f bit)

  field_stored_tame : (c : Bool) (k at : ℕ) (v : Value) → AlwaysTame w c (field_stored here k at v)
  field_stored_tame c k at v = both_tame w c tick _ (tick_tame w c) (λ u. both_tame w c _ _ (lift_tame w c (wanted_field (place_at here at) (here.field k))) (λ f. bits_stored_tame c at f v))

  buffer_field_read_tame : (c : Bool) (field : Option BufferField) (at : ℕ) → AlwaysTame w c (buffer_field_read here field at)
  buffer_field_read_tame c field at = both_tame w c _ _ (lift_tame w c (wanted_buffer_field (place_at here at) field)) (λ f. both_tame w c _ _ (peek_tame w c f.source (read_buffer_field here.width (place_at here at) f)) (λ v. give_tame w c _))

  buffer_field_changed_tame : (c : Bool) (at : ℕ) (field : Option BufferField) (v : Value) → AlwaysTame w c (buffer_field_changed here at field v)
  buffer_field_changed_tame c at (Some f) v = change_tame w c f.source (written_buffer_field here.width (place_at here at) f v)
  buffer_field_changed_tame c at None v = stepped_out w (Unit {0}) c (record { table = here.table; at = at; cause = why.Region })

  own_read_tame : (c : Bool) (field : Option BufferField) (k at : ℕ) → AlwaysTame w c (own_read here field k at)
  own_read_tame c (Some f) k at = buffer_field_read_tame c (usable_buffer_field f) at
  own_read_tame c None k at = both_tame w c _ _ (get_own_tame w c here.table at k) (λ v. give_tame w c _)

  own_held_tame : (c : Bool) (k at : ℕ) → AlwaysTame w c (own_held here k at)
  own_held_tame c k at = both_tame w c _ _ (own_field_tame w c k) (λ f. own_read_tame c f k at)

  own_changed_tame : (c : Bool) (field : Option BufferField) (k at : ℕ) (v : Value) → AlwaysTame w c (own_changed here field k at v)
  own_changed_tame c (Some f) k at v = buffer_field_changed_tame c at (usable_buffer_field f) v
  own_changed_tame c None k at v = set_own_tame w c here.table at k v

  own_stored_tame : (c : Bool) (k at : ℕ) (v : Value) → AlwaysTame w c (own_stored here k at v)
  own_stored_tame c k at v = both_tame w c _ _ (own_field_tame w c k) (λ f. own_changed_tame c f k at v)

  own_measured_tame : (c : Bool) (field : Option BufferField) (k at : ℕ) → AlwaysTame w c (own_measured here field k at)
  own_measured_tame c (Some f) k at = error_tame w Value c (record { table = here.table; at = at; cause = why.Kind })
  own_measured_tame c None k at = get_own_tame w c here.table at k

  own_seen_tame : (c : Bool) (k at : ℕ) → AlwaysTame w c (own_seen here k at)
  own_seen_tame c k at = both_tame w c _ _ (own_field_tame w c k) (λ f. own_measured_tame c f k at)

  interface_tame : (c : Bool) (at from : ℕ) (vs : List Value) → AlwaysTame w c (interface_asked here at from vs)
  interface_tame c at from [] = outside_tame (Option Value) c at
  interface_tame c at from (v ∷ []) = both_tame w c _ _ (lift_tame w c (answered here.is_interface here.width (place_at here from) v)) (λ said. give_tame w c _)
  interface_tame c at from (v ∷ u ∷ vs) = outside_tame (Option Value) c at

  named_tame : (c : Bool) (l : Link) (at : ℕ) → AlwaysTame w c (named here l at)
  named_tame c (link.Data id) at = held_tame c id.0 at
  named_tame c (link.Field id) at = field_read_tame c id.0 at
  named_tame c (link.BufferField id) at = buffer_field_read_tame c (here.buffer_field id.0) at
  named_tame c (link.Own k) at = own_held_tame c k at
  named_tame c (link.Method id) at = error_tame w (Option Value) c _
  named_tame c link.OsInterfaces at = error_tame w (Option Value) c _
  named_tame c (link.Object id) at = error_tame w (Option Value) c _
  named_tame c link.Missing at = error_tame w (Option Value) c _

  named_seen_tame : (c : Bool) (l : Link) (at : ℕ) → AlwaysTame w c (named_seen here l at)
  named_seen_tame c (link.Data id) at = name_tame w c here.table at id.0
  named_seen_tame c (link.Own k) at = own_seen_tame c k at
  named_seen_tame c (link.Field id) at = error_tame w Value c _
  named_seen_tame c (link.BufferField id) at = error_tame w Value c _
  named_seen_tame c (link.Method id) at = error_tame w Value c _
  named_seen_tame c link.OsInterfaces at = error_tame w Value c _
  named_seen_tame c (link.Object id) at = error_tame w Value c _
  named_seen_tame c link.Missing at = error_tame w Value c _

  seen_tame : (c : Bool) (a : Action) (at : ℕ) → AlwaysTame w c (seen here a at)
  seen_tame c (Local k) at = local_tame w c here.table at k
  seen_tame c (Argument k) at = arg_tame w c here.table at k
  seen_tame c Name at = named_seen_tame c (here.link at) at
  seen_tame c a at = stepped_out w Value c (record { table = here.table; at = at; cause = why.Outside })

  measured_tame : (c : Bool) (a : Action) (at : ℕ) → AlwaysTame w c (measured here a at)
  measured_tame c a at = both_tame w c (seen here a at) _ (seen_tame c a at) (λ x. lift_tame w c (size_of here.width (place_at here at) x))

  size_tame : (c : Bool) (t : Tree) → AlwaysTame w c (size here t)
  size_tame c (Node o at stop parts) = measured_tame c (action o) at

  asked_tame : (c : Bool) (what into : Action) (at from : ℕ) → AlwaysTame w c (asked here what into at from)
  asked_tame c Name NoTarget at from = give_tame w c _
  asked_tame c what into at from = outside_tame (Option Value) c at

  condition_tame : (c : Bool) (at : ℕ) (a g : Tree) → AlwaysTame w c (condition here at a g)
  condition_tame c at (Node o from stop parts) (Node target behind end others) = asked_tame c (action o) (action target) at from

  notified_name_tame : (c : Bool) (l : Link) (at : ℕ) → AlwaysTame w c (notified_name here l at)
  notified_name_tame c link.Missing at = error_tame w (Option ObjectId) c _
  notified_name_tame c (link.Object id) at = give_tame w c _
  notified_name_tame c (link.Data id) at = give_tame w c _
  notified_name_tame c (link.Field id) at = give_tame w c _
  notified_name_tame c (link.BufferField id) at = give_tame w c _
  notified_name_tame c (link.Own k) at = give_tame w c _
  notified_name_tame c (link.Method id) at = give_tame w c _
  notified_name_tame c link.OsInterfaces at = give_tame w c _

  notified_tame : (c : Bool) (a : Action) (at : ℕ) → AlwaysTame w c (notified here a at)
  notified_tame c Name at = notified_name_tame c (here.link at) at
  notified_tame c (Local k) at = give_tame w c _
  notified_tame c (Argument k) at = give_tame w c _
  notified_tame c a at = stepped_out w (Option ObjectId) c (record { table = here.table; at = at; cause = why.Outside })

  untargeted_tame : (c : Bool) (at : ℕ) (a : Action) → AlwaysTame w c (untargeted here at a)
  untargeted_tame c at NoTarget = give_tame w c tt
  untargeted_tame c at a = outside_tame (Unit {0}) c at

  bound_tame : (c : Bool) (l : Link) (at : ℕ) → AlwaysTame w c (bound here l at)
  bound_tame c link.Missing at = refused_tame ℕ c why.Missing at
  bound_tame c (link.Object id) at = give_tame w c at
  bound_tame c (link.Data id) at = give_tame w c at
  bound_tame c (link.Field id) at = give_tame w c at
  bound_tame c (link.BufferField id) at = give_tame w c at
  bound_tame c (link.Own k) at = give_tame w c at
  bound_tame c (link.Method id) at = give_tame w c at
  bound_tame c link.OsInterfaces at = give_tame w c at

  name_indexed_tame : (c : Bool) (at : ℕ) (a : Action) (from : ℕ) (parts : Trees) → AlwaysTame w c (name_indexed here at a from parts)
  name_indexed_tame c at Name from parts = bound_tame c (here.link from) from
  name_indexed_tame c at Invoke from (more name arguments) = bound_tame c (here.link (at_of name)) (at_of name)
  name_indexed_tame c at a from parts = refused_tame ℕ c why.Outside at

  indexed_tame : (c : Bool) (at : ℕ) (into : Action) (x : Tree) → AlwaysTame w c (indexed here at into x)
  indexed_tame c at NoTarget (Node o from stop parts) = name_indexed_tame c at (action o) from parts
  indexed_tame c at a x = refused_tame ℕ c why.Outside at

  call_tame_by : (c : Bool) (s : State) (o : Out (Option Value)) → IsTame s.frame o → Tame w c s o
  call_tame_by c s (state.Goes v next) h = kept_same w s.frame next.frame h
  call_tame_by c s (Halts (Error e) next) h = tt
  call_tame_by c s (Halts (Returned v) next) h = tt
  call_tame_by c s (Halts (Broke at) next) h = absurd h
  call_tame_by c s (Halts (Continued at) next) h = absurd h
  call_tame_by c s (NoAnswer next) h = tt
  call_tame_by c s (Spent next) h = tt

  invoked_tame : (c : Bool) (l : Link) (at from : ℕ) (arguments : M (List Value)) → AlwaysTame w c arguments → AlwaysTame w c (invoked here l at from arguments)
  invoked_tame c (link.Method id) at from arguments h = both_tame w c arguments _ h (λ vs script s. call_tame_by c s _ (tame.each _ id.0 vs script s))
  invoked_tame c link.OsInterfaces at from arguments h = both_tame w c arguments _ h (λ vs. interface_tame c at from vs)
  invoked_tame c (link.Data id) at from arguments h = held_tame c id.0 at
  invoked_tame c (link.Field id) at from arguments h = field_read_tame c id.0 at
  invoked_tame c (link.BufferField id) at from arguments h = buffer_field_read_tame c (here.buffer_field id.0) at
  invoked_tame c (link.Own k) at from arguments h = own_held_tame c k at
  invoked_tame c (link.Object id) at from arguments h = error_tame w (Option Value) c _
  invoked_tame c link.Missing at from arguments h = error_tame w (Option Value) c _

  target_tame : (c : Bool) (l : Link) (at : ℕ) (v : Value) → AlwaysTame w c (named_target here l at v)
  target_tame c (link.Data id) at v = set_name_tame w c here.table at id.0 v
  target_tame c (link.Field id) at v = field_stored_tame c id.0 at v
  target_tame c (link.BufferField id) at v = buffer_field_changed_tame c at (here.buffer_field id.0) v
  target_tame c (link.Own k) at v = own_stored_tame c k at v
  target_tame c (link.Method id) at v = stepped_out w (Unit {0}) c _
  target_tame c link.OsInterfaces at v = stepped_out w (Unit {0}) c _
  target_tame c (link.Object id) at v = stepped_out w (Unit {0}) c _
  target_tame c link.Missing at v = stepped_out w (Unit {0}) c _

  put_tame : (c : Bool) (a : Action) (at : ℕ) (v : Value) → watching w a ≡ false → AlwaysTame w c (put here a at v)
  put_tame c (Local k) at v e = both_tame w c tick _ (tick_tame w c) (λ u. set_local_tame w c k v e)
  put_tame c (Argument k) at v e = both_tame w c tick _ (tick_tame w c) (λ u. set_arg_tame w c k v)
  put_tame c NoTarget at v e = give_tame w c tt
  put_tame c Debug at v e = tick_tame w c
  put_tame c Name at v e = target_tame c (here.link at) at v
  put_tame c a at v e = stepped_out w (Unit {0}) c (record { table = here.table; at = at; cause = why.Outside })

  mutex_numbered_tame : (c : Bool) (at from k : ℕ) (o : Option Object) → AlwaysTame w c (mutex_numbered here at from k o)
  mutex_numbered_tame c at from k (Some (object.Mutex level)) = give_tame w c _
  mutex_numbered_tame c at from k (Some object.GlobalLock) = outside_tame TakenMutex c at
  mutex_numbered_tame c at from k o = error_tame w TakenMutex c (record { table = here.table; at = from; cause = why.Kind })

  mutex_named_tame : (c : Bool) (at from : ℕ) (l : Link) → AlwaysTame w c (mutex_named here at from l)
  mutex_named_tame c at from link.Missing = error_tame w TakenMutex c (record { table = here.table; at = from; cause = why.Missing })
  mutex_named_tame c at from (link.Object id) = mutex_numbered_tame c at from id.0 (here.object id.0)
  mutex_named_tame c at from l = error_tame w TakenMutex c (record { table = here.table; at = from; cause = why.Kind })

  mutex_tame : (c : Bool) (at : ℕ) (a : Action) (from : ℕ) → AlwaysTame w c (mutex here at a from)
  mutex_tame c at Name from = mutex_named_tame c at from (here.link from)
  mutex_tame c at (Local k) from = error_tame w TakenMutex c (record { table = here.table; at = from; cause = why.Kind })
  mutex_tame c at (Argument k) from = error_tame w TakenMutex c (record { table = here.table; at = from; cause = why.Kind })
  mutex_tame c at a from = stepped_out w TakenMutex c (record { table = here.table; at = from; cause = why.Outside })

  must_be : (c : Bool) → (c ≡ false → true ≡ false) → c ≡ true
  must_be true h = refl
  must_be false h = let bad : true ≡ false = h refl in absurd cc

  break_tame : (c : Bool) (at : ℕ) → AlwaysTame w c (stop_with {V = Option Value} (Broke at))
  unfolding stop_with
  break_tame c at script s = kept_same w s.frame s.frame refl

  continue_tame : (c : Bool) (at : ℕ) → c ≡ true → AlwaysTame w c (stop_with {V = Option Value} (Continued at))
  unfolding stop_with
  continue_tame c at e script s = (kept_same w s.frame s.frame refl, e)

  return_tame : (c : Bool) (v : Value) → AlwaysTame w c (stop_with {V = Option Value} (Returned v))
  unfolding stop_with
  return_tame c v script s = tt

  in_place_tame : (c : Bool) (a : Action) (at : ℕ) → AlwaysTame w c (changed_in_place here a at)
  in_place_tame c Dereference at = refused_tame (Unit {0}) c why.Outside at
  in_place_tame c a at = give_tame w c tt

  tested_tame : (c : Bool) (p : Place) (m : M Value) → AlwaysTame w c m → AlwaysTame w c (tested here p m)
  tested_tame c p m h = both_tame w c m _ h (λ v. lift_tame w c (integer p v))

  unwritten_calm : (c : Bool) (parts : Trees) → CalmBy w c Unwritten parts → AreCalm w c parts
  unwritten_calm c none h = tt
  unwritten_calm c (more t ts) h = h

  else_calm : (c : Bool) (o : Op) (parts : Trees) → is_else o ≡ true → CalmBy w c (action o) parts → AreCalm w c parts
  else_calm c o parts e h = unwritten_calm c parts (subst (λ a. CalmBy w c a parts) (else_action o e) h)

  either_tame : (c b : Bool) (m n : M (Unit {0})) → (b ≡ true → AlwaysTame w c m) → AlwaysTame w c n → AlwaysTame w c (if b then m else n)
  either_tame c true m n h g = h refl
  either_tame c false m n h g = g

  mutual
    mean_tame : (c : Bool) (t : Tree) → Calm w c t → AlwaysTame w c (mean here t)
    mean_tame c (Node o at stop parts) h = both_tame w c tick _ (tick_tame w c) (λ u. act_tame c (action o) at parts h.0 h.1 h.2)

    value_tame : (c : Bool) (t : Tree) → Calm w c t → AlwaysTame w c (value here t)
    value_tame c (Node o at stop parts) h = both_tame w c tick _ (tick_tame w c) (λ u. both_tame w c (if gives_value here (action o) parts then act here (action o) at parts else stop_with (error why.Outside here.table at)) _ (choice_tame w c (gives_value here (action o) parts) (act here (action o) at parts) (stop_with (error why.Outside here.table at)) (act_tame c (action o) at parts h.0 h.1 h.2) (error_tame w (Option Value) c (record { table = here.table; at = at; cause = why.Outside }))) (λ v. want_tame c at v))

    store_tame : (c : Bool) (g : Tree) (v : Value) → Calm w c g → acts (watching w) g ≡ false → AlwaysTame w c (store here g v)
    store_tame c (Node o at stop parts) v h e = stored_tame c (action o) at parts v h.2 e

    stored_tame : (c : Bool) (a : Action) (at : ℕ) (parts : Trees) (v : Value) → CalmBy w c a parts → watching w a ≡ false → AlwaysTame w c (stored here a at parts v)
    stored_tame c Index at (more x (more i (more g none))) v h e =
        both_tame w c _ _ (indexed_tame c at (operator_action here g) x) (λ from. both_tame w c (value here i) _ (value_tame c i h.1.0) (λ n. change_tame w c (here.link from) (byte_written (place_at here at) (place_at here from) (place here i) n v)))
    stored_tame c a at parts v h e = put_tame c a at v e

    act_tame : (c : Bool) (a : Action) (at : ℕ) (parts : Trees) → targets (watching w) a parts ≡ false → (c ≡ false → is_continue a ≡ false) → CalmBy w c a parts → AlwaysTame w c (act here a at parts)
    act_tame c (Literal o) at parts e k h = give_tame w c _
    act_tame c (Data o) at parts e k h = data_tame c (computed_size o at parts) (here.literal o parts)
    act_tame c (Local i) at parts e k h = both_tame w c _ _ (local_tame w c here.table at i) (λ v. give_tame w c _)
    act_tame c (Argument i) at parts e k h = both_tame w c _ _ (arg_tame w c here.table at i) (λ v. give_tame w c _)
    act_tame c (Binary f) at (more a (more b (more g none))) e k h =
        both_tame w c (value here a) _ (value_tame c a h.0) (λ x. both_tame w c (value here b) _ (value_tame c b h.1.0) (λ y. both_tame w c _ _ (lift_tame w c _) (λ v. both_tame w c (store here g v) _ (store_tame c g v h.1.1.0 e) (λ u. give_tame w c _))))
    act_tame c (Unary f) at (more a (more g none)) e k h =
        both_tame w c (value here a) _ (value_tame c a h.0) (λ x. both_tame w c _ _ (lift_tame w c _) (λ v. both_tame w c (store here g v) _ (store_tame c g v h.1.0 e) (λ u. give_tame w c _)))
    act_tame c (ByOne f) at (more a none) e k h =
        both_tame w c _ _ (in_place_tame c (operator_action here a) (at_of a)) (λ u. both_tame w c (value here a) _ (value_tame c a h.0) (λ x. both_tame w c _ _ (lift_tame w c _) (λ v. both_tame w c (store here a v) _ (store_tame c a v h.0 e) (λ u2. give_tame w c _))))
    act_tame c (Compare f) at (more a (more b none)) e k h =
        both_tame w c (value here a) _ (value_tame c a h.0) (λ x. both_tame w c (value here b) _ (value_tame c b h.1.0) (λ y. both_tame w c _ _ (lift_tame w c _) (λ v. give_tame w c _)))
    act_tame c LNot at (more a none) e k h =
        both_tame w c (value here a) _ (value_tame c a h.0) (λ x. both_tame w c _ _ (lift_tame w c _) (λ v. give_tame w c _))
    act_tame c Divide at (more a (more b (more r (more q none)))) e k h =
        let two = or_parts (acts (watching w) r) (acts (watching w) q) e in
        both_tame w c (value here a) _ (value_tame c a h.0) (λ x. both_tame w c (value here b) _ (value_tame c b h.1.0) (λ y. both_tame w c _ _ (lift_tame w c (divided (place here a) x (place here b) y)) (λ d. both_tame w c (store here r d.remainder) _ (store_tame c r d.remainder h.1.1.0 two.0) (λ u. both_tame w c (store here q d.quotient) _ (store_tame c q d.quotient h.1.1.1.0 two.1) (λ u2. give_tame w c _)))))
    act_tame c (Convert f) at (more a (more g none)) e k h =
        both_tame w c (value here a) _ (value_tame c a h.0) (λ x. both_tame w c _ _ (lift_tame w c _) (λ v. both_tame w c (store here g v) _ (store_tame c g v h.1.0 e) (λ u. give_tame w c _)))
    act_tame c Concatenate at (more a (more b (more g none))) e k h =
        both_tame w c (value here a) _ (value_tame c a h.0) (λ x. both_tame w c (value here b) _ (value_tame c b h.1.0) (λ y. both_tame w c _ _ (lift_tame w c _) (λ v. both_tame w c (store here g v) _ (store_tame c g v h.1.1.0 e) (λ u. give_tame w c _))))
    act_tame c SizeOf at (more a none) e k h = both_tame w c _ _ (size_tame c a) (λ v. give_tame w c _)
    act_tame c Dereference at (more a none) e k h = dereferenced_tame c at a h.0
    act_tame c CondRefOf at (more a (more g none)) e k h = condition_tame c at a g
    act_tame c Store at (more a (more g none)) e k h =
        both_tame w c (value here a) _ (value_tame c a h.0) (λ v. both_tame w c (store here g v) _ (store_tame c g v h.1.0 e) (λ u. give_tame w c _))
    act_tame c Return at (more a none) e k h = both_tame w c (value here a) _ (value_tame c a h.0) (λ v. both_tame w c (none_held here.table at) _ (none_held_tame w c here.table at) (λ u. return_tame c v))
    act_tame c If at (more t body) e k h =
        both_tame w c _ _ (tested_tame c (place here t) (value here t) (value_tame c t h.0)) (λ x. both_tame w c (if x == 0 then otherwise here body else block here body) _ (choice_tame w c (x == 0) (otherwise here body) (block here body) (otherwise_tame c body h.1) (block_tame c body h.1)) (λ u. give_tame w c _))
    act_tame c While at (more t body) e k h =
        both_tame w c _ _ (loop_tame w c (tested here (place here t) (value here t)) (mean_all here body) (tested_tame c (place here t) (value here t) (value_tame c t h.0)) (all_tame true body h.1)) (λ u. give_tame w c _)
    act_tame c Break at parts e k h = break_tame c at
    act_tame c Continue at parts e k h = continue_tame c at (must_be c k)
    act_tame c Nothing at parts e k h = give_tame w c _
    act_tame c Name at parts e k h = named_tame c (here.link at) at
    act_tame c Invoke at (more name arguments) e k h = invoked_tame c (here.link (at_of name)) (at_of name) _ (values here arguments) (values_tame c arguments h.1)
    act_tame c Notify at (more o (more a none)) e k h =
        both_tame w c _ _ (notified_tame c (action (operator_of o)) (at_of o)) (λ object. both_tame w c (value here a) _ (value_tame c a h.1.0) (λ v. both_tame w c _ _ (lift_tame w c (notice (place here o) object)) (λ id. both_tame w c _ _ (lift_tame w c (integer (place here a) v)) (λ n. both_tame w c _ _ (make_event_tame w c (Notified id n)) (λ u. give_tame w c _)))))
    act_tame c (Pause f) at (more a none) e k h =
        both_tame w c (value here a) _ (value_tame c a h.0) (λ v. both_tame w c _ _ (lift_tame w c (integer (place here a) v)) (λ n. both_tame w c _ _ (paused_tame w c f n) (λ u. give_tame w c _)))
    act_tame c Acquire at (more o (more timeout none)) e k h =
        both_tame w c _ _ (mutex_tame c at (action (operator_of o)) (at_of o)) (λ m. both_tame w c _ _ (acquire_tame w c here.table at m) (λ u. give_tame w c _))
    act_tame c Release at (more o none) e k h =
        both_tame w c _ _ (mutex_tame c at (action (operator_of o)) (at_of o)) (λ m. both_tame w c _ _ (release_tame w c here.table at m) (λ u. give_tame w c _))
    act_tame c a at parts e k h = outside_tame (Option Value) c at

    dereferenced_tame : (c : Bool) (at : ℕ) (t : Tree) → Calm w c t → AlwaysTame w c (dereferenced here at t)
    dereferenced_tame c at (Node o from stop parts) h = led_tame c (action o) at from parts h.2

    led_tame : (c : Bool) (a : Action) (at from : ℕ) (parts : Trees) → CalmBy w c a parts → AlwaysTame w c (led here a at from parts)
    led_tame c Index at from (more a (more i (more g none))) h =
        both_tame w c tick _ (tick_tame w c) (λ u. both_tame w c _ _ (untargeted_tame c from (operator_action here g)) (λ u2. both_tame w c (value here a) _ (value_tame c a h.0) (λ x. both_tame w c (value here i) _ (value_tame c i h.1.0) (λ n. both_tame w c _ _ (lift_tame w c (element_at (place_at here from) (place here a) x (place here i) n)) (λ v. give_tame w c _)))))
    led_tame c a at from parts h = outside_tame (Option Value) c at

    values_tame : (c : Bool) (ts : Trees) → AreCalm w c ts → AlwaysTame w c (values here ts)
    values_tame c none h = give_tame w c _
    values_tame c (more t ts) h = both_tame w c (value here t) _ (value_tame c t h.0) (λ v. both_tame w c (values here ts) _ (values_tame c ts h.1) (λ vs. give_tame w c _))

    pub all_tame : (c : Bool) (ts : Trees) → AreCalm w c ts → AlwaysTame w c (mean_all here ts)
    all_tame c none h = give_tame w c tt
    all_tame c (more t ts) h = both_tame w c (mean here t) _ (mean_tame c t h.0) (λ v. all_tame c ts h.1)

    block_tame : (c : Bool) (ts : Trees) → AreCalm w c ts → AlwaysTame w c (block here ts)
    block_tame c none h = give_tame w c tt
    block_tame c (more t ts) h = choice_tame w c (is_else (operator_of t)) (give tt) (mean here t >>= (λ v. block here ts)) (give_tame w c tt) (both_tame w c (mean here t) _ (mean_tame c t h.0) (λ v. block_tame c ts h.1))

    otherwise_tame : (c : Bool) (ts : Trees) → AreCalm w c ts → AlwaysTame w c (otherwise here ts)
    otherwise_tame c none h = give_tame w c tt
    otherwise_tame c (more (Node o at stop parts) ts) h = either_tame c (is_else o) (mean_all here parts) (otherwise here ts) (λ e. all_tame c parts (else_calm c o parts e h.0.2)) (otherwise_tame c ts h.1)

  pub term_tame : (c : Bool) (t : Tree) → Calm w c t → AlwaysTame w c (mean here t)
  term_tame = mean_tame

kept_told : {V : Type 0} (l : ℕ) (c : Bool) (before : State) (o : Out V) → Tame (Some l) c before o → IsKept l c before o
kept_told l c before (state.Goes v s) h = h
kept_told l c before (Halts (Error e) s) h = tt
kept_told l c before (Halts (Returned v) s) h = tt
kept_told l c before (Halts (Broke at) s) h = h
kept_told l c before (Halts (Continued at) s) h = h
kept_told l c before (NoAnswer s) h = tt
kept_told l c before (Spent s) h = tt

pub terms_keep_locals : TermsKeepLocals
terms_keep_locals here tame l t e script s =
    kept_told l (continues t) s _ (term_tame here tame (Some l) (continues t) t (calm (Some l) (continues t) t e (λ f. f)) script s)
