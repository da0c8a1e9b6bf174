-- What operands and targets cost: the sum over them.
use Rattle.std.proofs.Common.{inl, inr, ◌≡◌, ◌≤◌, ℕ, zero, suc, ◌+◌, List, [], ◌∷◌, Option, Some, None, refl, sym, ap, ◌∙◌, subst, arith}
use Rattle.std.proofs.lemmas.Bool.{and_parts}
use Rattle.std.proofs.lemmas.Bool.Decides.{nat_tests}
use Rattle.std.specs.Prelude.{◌⊎◌, ◌==◌, Bool, true, false, Result, Ok, Err, if◌then◌else◌, nat_le, slice_get}
use Rattle.aml_operators.specs.declared.op.Op.{Op}
use Rattle.aml_operators.specs.declared.op.Op.TheVariants as operator
use Rattle.aml_operators.specs.Shape.{operator_of}
use Rattle.aml_operators.specs.Tree.{Tree, Trees, Node, none, more}
use Rattle.aml_namespace.specs.declared.link.Link.{Link}
use Rattle.aml_namespace.specs.declared.link.Link.TheVariants as link
use Rattle.aml_objects.specs.declared.object.Object.{Object}
use Rattle.aml_objects.specs.declared.object.Object.TheVariants as object
use Rattle.aml_kinds.specs.Kinds.{Kind, IntUpTo}
use Rattle.aml_regions.specs.Fields.{layout_of}
use Rattle.aml_regions.specs.declared.field.AnyField.{AnyField}
use Rattle.aml_contents.specs.BodyData.{computed_size}
use Rattle.aml_contents.specs.FirstKinds.{kind_by}
use Rattle.aml_contents.specs.Contents.{kind_at}
use Rattle.aml_meaning.specs.declared.action.Action.{Action}
use Rattle.aml_meaning.specs.declared.action.Action.TheVariants.{Argument, Binary, Break, ByOne, Compare, Concatenate, CondRefOf, Continue, Convert, Data, Debug, Dereference, Divide, If, Index, Invoke, LNot, Literal, Local, Name, NoTarget, Nothing, Notify, Pause, Acquire, Release, Return, SizeOf, Store, Unary, Unwritten, While}
use Rattle.aml_meaning.specs.declared.mutex.TakenMutex.{TakenMutex}
use Rattle.aml_meaning.specs.declared.buffer_field.BufferField.{BufferField}
use Rattle.aml_meaning.specs.Actions.{action}
use Rattle.aml_meaning.specs.BufferFields.{usable_buffer_field}
use Rattle.aml_meaning.specs.Fields.{write_count}
use Rattle.aml_meaning.specs.Meaning.{at_of}
use Rattle.aml_meaning.specs.Mutexes.{without_last}
use Rattle.aml_meaning.specs.State.{greatest_level}
use Rattle.aml_meaning.specs.Owns.{field_at}
use Rattle.aml_meaning.specs.Rules.{Place}
use Rattle.aml_bounds.specs.declared.role.Role.{Role}
use Rattle.aml_bounds.specs.declared.role.Role.TheVariants as role_is
use Rattle.aml_bounds.specs.declared.turn_count.TurnCount.{TurnCount}
use Rattle.aml_bounds.specs.Shapes.{is_operand}
use Rattle.aml_bounds.specs.Steps.{extra_steps, first_steps, index_steps, Knows, read_role, role, steps_as, steps_by, steps_from, target_steps, written_role}
use Rattle.aml_judged.specs.Causes as cause
use Rattle.aml_judged.specs.Causes.{Refusal}
use Rattle.aml_judged.specs.KindRules.{buffer_field_stored_kind, byte_written_kind, combined_kind, compared_kind, concatenated_kind, converted_kind, divided_kind, given_kind, integer_kind, interface_kind, led_kind, may_replace, negated_kind, notice_kind, size_kind, source_kind, transformed_kind}
use Rattle.aml_judged.specs.Known.{within, Env, Held, These, Different, Slot}
use Rattle.aml_judged.specs.Judged.{Yield, Always, Sometimes, Never, Accepted, Seen, Around, Exits, Judged, Goes, Stops, Rule, after, then_judge, goes, meet, no_exits, pays, ruled, step}
use Rattle.aml_judged.specs.Judge as judge
use Rattle.aml_judged.specs.Judge.{judged_act, judged_dereferenced, judged_led, judged_store, judged_stored, judged_value, judged_values, wanted}
use Rattle.aml_judged.specs.Sums.{call_cost, calls_alone_take, known_costs, may_take, named_cost, only_calls_take, read_cost, stored_cost, takes_rightly, write_cost}

-- what goes has just this cost
abbrev pub Costs : {K : Type 0} → ℕ → Judged K → Type 0
Costs n (Goes k env x m) = m ≡ n
Costs n (Stops r) = Unit {0}

abbrev pub IsStopped : {K : Type 0} → Judged K → Type 0
IsStopped (Goes k env x n) = ⊥
IsStopped (Stops r) = Unit {0}

pub stopped_costs : {K : Type 0} (n : ℕ) (j : Judged K) → IsStopped j → Costs n j
stopped_costs n (Goes k env x m) h = absurd h
stopped_costs n (Stops r) h = tt

pub costs_same : {K : Type 0} (n m : ℕ) (j : Judged K) → n ≡ m → Costs n j → Costs m j
costs_same n m (Goes k env x p) e h = h ∙ e
costs_same n m (Stops r) e h = tt

pub after_costs : {K : Type 0} (a b n : ℕ) (x : Exits) (j : Judged K) → n ≡ a → Costs b j → Costs (a + b) (after x n j)
after_costs a b n x (Goes k env y m) e h = omega (arith, e, h)
after_costs a b n x (Stops r) e h = tt

pub then_costs : {J K : Type 0} (a b : ℕ) (j : Judged J) (f : J → Env → Judged K) → Costs a j → ((k : J) (env : Env) → Costs b (f k env)) → Costs (a + b) (then_judge j f)
then_costs a b (Goes k env x n) f h next = after_costs a b n x (f k env) h (next k env)
then_costs a b (Stops r) f h next = tt

-- a last part that costs nothing
pub then_free : {J K : Type 0} (a : ℕ) (j : Judged J) (f : J → Env → Judged K) → Costs a j → ((k : J) (env : Env) → Costs 0 (f k env)) → Costs a (then_judge j f)
then_free a j f h next = costs_same (a + 0) a (then_judge j f) (omega arith) (then_costs a 0 j f h next)

-- a first part that costs nothing
pub free_then : {J K : Type 0} (b : ℕ) (j : Judged J) (f : J → Env → Judged K) → Costs 0 j → ((k : J) (env : Env) → Costs b (f k env)) → Costs b (then_judge j f)
free_then b j f h next = costs_same (0 + b) b (then_judge j f) (omega arith) (then_costs 0 b j f h next)

after_stopped : {K : Type 0} (x : Exits) (n : ℕ) (j : Judged K) → IsStopped j → IsStopped (after x n j)
after_stopped x n (Goes k env y m) h = h
after_stopped x n (Stops r) h = tt

stopped_after : {K : Type 0} (x : Exits) (n : ℕ) (j : Judged K) → IsStopped (after x n j) → IsStopped j
stopped_after x n (Goes k env y m) h = h
stopped_after x n (Stops r) h = tt

pub then_stopped : {J K : Type 0} (j : Judged J) (f : J → Env → Judged K) → ((k : J) (env : Env) → IsStopped (f k env)) → IsStopped (then_judge j f)
then_stopped (Goes k env x n) f h = after_stopped x n (f k env) (h k env)
then_stopped (Stops r) f h = tt

inner_stopped : {K L : Type 0} (x : Exits) (n : ℕ) (i : Judged K) (g : K → Env → Judged L) → IsStopped (then_judge i g) → IsStopped (then_judge (after x n i) g)
inner_stopped x n (Stops r) g s = tt
inner_stopped x n (Goes l next y m) g s = after_stopped _ _ (g l next) (stopped_after y m (g l next) s)

-- where the parts of a part stop with what follows
nested_stopped : {J K L : Type 0} (j : Judged J) (f : J → Env → Judged K) (g : K → Env → Judged L) → ((k : J) (env : Env) → IsStopped (then_judge (f k env) g)) → IsStopped (then_judge (then_judge j f) g)
nested_stopped (Stops r) f g h = tt
nested_stopped (Goes k env x n) f g h = inner_stopped x n (f k env) g (h k env)

-- an operator is a Name, which takes two steps and has no meaning below the top of a body, or takes one
pub one_first : (o : Op) → (first_steps o ≡ 1) ⊎ (action o ≡ Unwritten)
one_first operator.Name = inr refl
one_first o = inl refl

never_zero : (n : ℕ) → (suc n == 0) ≡ false
never_zero n = grind (arith, nat_tests)

-- any operator but If and While
abbrev pub IsPlain : Action → Type 0
IsPlain If = ⊥
IsPlain While = ⊥
IsPlain a = Unit {0}

-- a rule in its place, or a stop
pub if_costs : {K : Type 0} (b : Bool) (n : ℕ) (rule other : Rule K) (env : Env) → Costs n (rule env) → IsStopped (other env) → Costs n ((if b then rule else other) env)
if_costs true n rule other env h s = h
if_costs false n rule other env h s = stopped_costs n (other env) s

-- what follows a rule, which costs nothing
pub ruled_then : {J K : Type 0} (b : ℕ) (r : Result J Refusal) (f : J → Env → Judged K) (env : Env) → ((k : J) → Costs b (f k env)) → Costs b (then_judge (ruled r env) f)
ruled_then b (Ok k) f env h = costs_same (0 + b) b (then_judge (ruled (Ok k) env) f) (omega arith) (after_costs 0 b 0 no_exits (f k env) refl (h k))
ruled_then b (Err r) f env h = tt

pub ruled_free : {K : Type 0} (r : Result K Refusal) (env : Env) → Costs 0 (ruled r env)
ruled_free (Ok k) env = refl
ruled_free (Err r) env = tt

module _ (here : Around) (turns : ℕ → TurnCount) where
  abbrev sum : Knows
  sum = known_costs here turns

  abbrev place : Tree → Place
  place t = judge.place here t

  abbrev place_at : ℕ → Place
  place_at at = judge.place_at here at

  abbrev number : Tree → Option ℕ
  number t = judge.number_of here t

  abbrev held_kind : Link → Option Kind
  held_kind l = judge.held_kind here l

  abbrev value_sum : Tree → ℕ
  value_sum t = steps_as sum role_is.Operand t

  abbrev target_sum : Tree → ℕ
  target_sum t = steps_as sum role_is.Target t

  -- that of operands one by one
  abbrev pub values_sum : Trees → ℕ
  values_sum none = 0
  values_sum (more t ts) = value_sum t + values_sum ts

  skipped : (t : Tree) → steps_as sum role_is.Skipped t ≡ 0
  skipped (Node o at stop parts) = refl

  changed : (t : Tree) → steps_as sum role_is.Changed t ≡ value_sum t + target_sum t
  changed (Node o at stop parts) = refl

  skipped_from : (roles : ℕ → Role) → ((i : ℕ) → roles i ≡ role_is.Skipped) → (i : ℕ) (ts : Trees) → steps_from sum roles i ts ≡ 0
  skipped_from roles h i none = refl
  skipped_from roles h i (more t ts) =
      let first : steps_as sum (roles i) t ≡ 0 = ap (λ r. steps_as sum r t) (h i) ∙ skipped t in
      let rest = skipped_from roles h (suc i) ts in omega (arith, first, rest)

  pub values_from : (roles : ℕ → Role) (i : ℕ) → ((k : ℕ) → roles (i + k) ≡ role_is.Operand) → (ts : Trees) → steps_from sum roles i ts ≡ values_sum ts
  values_from roles i h none = refl
  values_from roles i h (more t ts) =
      let here : i + 0 ≡ i = omega arith in
      let first : steps_as sum (roles i) t ≡ value_sum t = ap (λ r. steps_as sum r t) (ap roles (sym here) ∙ h 0) in
      let rest = values_from roles (suc i) (λ k. let next : suc i + k ≡ i + suc k = omega arith in ap roles next ∙ h (suc k)) ts in
      omega (arith, first, rest)

  -- a plain operator's sum is what it takes itself, and its parts in their roles
  plain_sum : (a : Action) (at : ℕ) (parts : Trees) → IsPlain a → steps_by sum a at parts ≡ extra_steps sum a at parts + steps_from sum (role a) 0 parts
  plain_sum If at parts p = absurd p
  plain_sum While at parts p = absurd p
  plain_sum a at none p = omega arith
  plain_sum a at (more t ts) p = refl

  pub lone_sum : (a : Action) (at n : ℕ) (parts : Trees) → IsPlain a → ((i : ℕ) → role a i ≡ role_is.Skipped) → extra_steps sum a at parts ≡ n → n ≡ steps_by sum a at parts
  lone_sum a at n parts p h e =
      let whole = plain_sum a at parts p in
      let rest = skipped_from (role a) h 0 parts in omega (arith, whole, rest, e)

  -- what costs nothing
  wanted_free : (at : ℕ) (y : Yield) (env : Env) → Costs 0 (wanted here at y env)
  wanted_free at (Always k) env = refl
  wanted_free at (Sometimes k) env = tt
  wanted_free at Never env = tt

  slot_free : (at : ℕ) (slot : Option Slot) (env : Env) → Costs 0 (judge.judged_slot here at slot env)
  slot_free at (Some (Some k)) env = refl
  slot_free at (Some None) env = tt
  slot_free at None env = tt

  content_free : (at : ℕ) (k : Option Kind) (env : Env) → Costs 0 (judge.judged_content here at k env)
  content_free at (Some k) env = refl
  content_free at None env = tt

  buffer_field_free : (f : Option BufferField) (at : ℕ) (env : Env) → Costs 0 (judge.judged_buffer_field here f at env)
  buffer_field_free (Some f) at env = ruled_then 0 (source_kind (place_at at) f (held_kind f.source)) _ env (λ u. refl)
  buffer_field_free None at env = tt

  own_free : (f : Option BufferField) (k at : ℕ) (env : Env) → Costs 0 (judge.judged_own here f k at env)
  own_free (Some f) k at env = buffer_field_free (usable_buffer_field f) at env
  own_free None k at env = content_free at (kind_at here.kinds.owns k) env

  field_costs : (f : Option AnyField) (at : ℕ) (env : Env) → Costs (read_cost f) (judge.judged_field here f at env)
  field_costs (Some f) at env = refl
  field_costs None at env = tt

  name_costs : (l : Link) (at : ℕ) (env : Env) → Costs (named_cost here l) (judge.judged_name here l at env)
  name_costs (link.Data id) at env = content_free at (kind_at here.kinds.shared id.0) env
  name_costs (link.Own k) at env = own_free (field_at here.kinds.fields k) k at env
  name_costs (link.Field id) at env = field_costs (here.field id.0) at env
  name_costs (link.BufferField id) at env = buffer_field_free (here.buffer_field id.0) at env
  name_costs link.Missing at env = tt
  name_costs (link.Method id) at env = tt
  name_costs link.OsInterfaces at env = tt
  name_costs (link.Object id) at env = tt

  literal_free : (o : Option ℕ) (k : Kind) (env : Env) → Costs 0 (judge.judged_literal here o k env)
  literal_free None k env = refl
  literal_free (Some from) k env = tt

  slot_seen_free : (at : ℕ) (slot : Option Slot) (env : Env) → Costs 0 (judge.judged_slot_seen here at slot env)
  slot_seen_free at (Some (Some k)) env = refl
  slot_seen_free at (Some None) env = tt
  slot_seen_free at None env = tt

  content_seen_free : (at : ℕ) (k : Option Kind) (env : Env) → Costs 0 (judge.judged_content_seen here at k env)
  content_seen_free at (Some k) env = refl
  content_seen_free at None env = tt

  own_seen_free : (f : Option BufferField) (k at : ℕ) (env : Env) → Costs 0 (judge.judged_own_seen here f k at env)
  own_seen_free (Some f) k at env = tt
  own_seen_free None k at env = content_seen_free at (kind_at here.kinds.owns k) env

  name_seen_free : (l : Link) (at : ℕ) (env : Env) → Costs 0 (judge.judged_name_seen here l at env)
  name_seen_free (link.Data id) at env = content_seen_free at (kind_at here.kinds.shared id.0) env
  name_seen_free (link.Own k) at env = own_seen_free (field_at here.kinds.fields k) k at env
  name_seen_free l at env = tt

  seen_free : (a : Action) (at : ℕ) (env : Env) → Costs 0 (judge.judged_seen here a at env)
  seen_free (Local i) at env = slot_seen_free at (slice_get env.locals i) env
  seen_free (Argument i) at env = slot_seen_free at (slice_get env.args i) env
  seen_free Name at env = name_seen_free (here.link at) at env
  seen_free a at env = tt

  size_free : (t : Tree) (env : Env) → Costs 0 (judge.judged_size here t env)
  size_free (Node o at stop parts) env = then_free 0 (judge.judged_seen here (action o) at env) _ (seen_free (action o) at env) (λ k next. ruled_free (size_kind here.width (place_at at) k) next)

  asked_free : (a b : Action) (at : ℕ) (env : Env) → Costs 0 (judge.judged_asked here a b at env)
  asked_free Name NoTarget at env = refl
  asked_free a b at env = tt

  condition_free : (at : ℕ) (t g : Tree) (env : Env) → Costs 0 (judge.judged_condition here at t g env)
  condition_free at (Node o from stop parts) (Node p behind end others) env = asked_free (action o) (action p) at env

  notified_name_free : (l : Link) (at : ℕ) (env : Env) → Costs 0 (judge.judged_notified_name here l at env)
  notified_name_free link.Missing at env = tt
  notified_name_free l at env = refl

  notified_free : (a : Action) (at : ℕ) (env : Env) → Costs 0 (judge.judged_notified here a at env)
  notified_free Name at env = notified_name_free (here.link at) at env
  notified_free (Local k) at env = refl
  notified_free (Argument k) at env = refl
  notified_free a at env = tt

  in_place_free : (a : Action) (at : ℕ) (env : Env) → Costs 0 (judge.judged_in_place here a at env)
  in_place_free Dereference at env = tt
  in_place_free a at env = refl

  placed_free : (t : Tree) (env : Env) → Costs 0 (judge.judged_placed here t env)
  placed_free (Node o at stop parts) env = in_place_free (action o) at env

  bound_free : (l : Link) (at : ℕ) (env : Env) → Costs 0 (judge.judged_bound here l at env)
  bound_free link.Missing at env = tt
  bound_free l at env = refl

  name_indexed_free : (at : ℕ) (a : Action) (from : ℕ) (parts : Trees) (env : Env) → Costs 0 (judge.judged_name_indexed here at a from parts env)
  name_indexed_free at Name from parts env = bound_free (here.link from) from env
  name_indexed_free at Invoke from (more name arguments) env = bound_free (here.link (at_of name)) (at_of name) env
  name_indexed_free at a from parts env = tt

  indexed_free : (at : ℕ) (a : Action) (t : Tree) (env : Env) → Costs 0 (judge.judged_indexed here at a t env)
  indexed_free at NoTarget (Node o from stop parts) env = name_indexed_free at (action o) from parts env
  indexed_free at a t env = tt

  mutex_numbered_free : (at from k : ℕ) (o : Option Object) (env : Env) → Costs 0 (judge.judged_mutex_numbered here at from k o env)
  mutex_numbered_free at from k (Some (object.Mutex level)) env = refl
  mutex_numbered_free at from k (Some o) env = tt
  mutex_numbered_free at from k None env = tt

  mutex_named_free : (at from : ℕ) (l : Link) (env : Env) → Costs 0 (judge.judged_mutex_named here at from l env)
  mutex_named_free at from (link.Object id) env = mutex_numbered_free at from id.0 (here.object id.0) env
  mutex_named_free at from l env = tt

  mutex_free : (at : ℕ) (a : Action) (from : ℕ) (env : Env) → Costs 0 (judge.judged_mutex here at a from env)
  mutex_free at Name from env = mutex_named_free at from (here.link from) env
  mutex_free at a from env = tt

  holding_free : {K : Type 0} (at : ℕ) (rule : List TakenMutex → Rule K) (held : Held) (env : Env) → ((ms : List TakenMutex) → Costs 0 (rule ms env)) → Costs 0 (judge.holding_by here at rule held env)
  holding_free at rule (These ms) env h = h ms
  holding_free at rule Different env h = tt

  taken_free : (b : Bool) (at : ℕ) (m : TakenMutex) (ms : List TakenMutex) (env : Env) → Costs 0 (judge.taken_or here b at m ms env)
  taken_free true at m ms env = refl
  taken_free false at m ms env = tt

  released_free : (o : Option (List TakenMutex)) (at : ℕ) (env : Env) → Costs 0 (judge.released_or here o at env)
  released_free (Some ms) at env = refl
  released_free None at env = tt

  pub none_held_free : (b : Bool) (held : Held) (at : ℕ) (env : Env) → Costs 0 (judge.none_held_at here b held at env)
  none_held_free false held at env = refl
  none_held_free true (These []) at env = refl
  none_held_free true (These (m ∷ ms)) at env = tt
  none_held_free true Different at env = tt

  level_free : (b : Bool) (at : ℕ) (env : Env) → Costs 0 (judge.level_or here b at env)
  level_free true at env = refl
  level_free false at env = tt

  within_free : (ks given : List Kind) (ts : Trees) (env : Env) → Costs 0 (judge.are_within here ks given ts env)
  within_free [] [] none env = refl
  within_free [] [] (more t ts) env = tt
  within_free [] (a ∷ given) ts env = tt
  within_free (k ∷ ks) [] ts env = tt
  within_free (k ∷ ks) (a ∷ given) none env = tt
  within_free (k ∷ ks) (a ∷ given) (more t ts) env = if_costs (within k a) 0 (judge.are_within here ks given ts) (judge.stops here cause.WrongKind (at_of t)) env (within_free ks given ts env) tt

  -- a call
  not_reaching_free : (at : ℕ) (b : Bool) (env : Env) → Costs 0 (judge.not_reaching here at b env)
  not_reaching_free at true env = tt
  not_reaching_free at false env = refl

  not_deep_free : (at : ℕ) (b : Bool) (env : Env) → Costs 0 (judge.not_deep here at b env)
  not_deep_free at true env = tt
  not_deep_free at false env = refl

  result_free : (w : Bool) (at : ℕ) (m : Option Accepted) (env : Env) → Costs 0 (judge.with_result here w at m env)
  result_free true at (Some m) env = then_free 0 (wanted here at m.result env) _ (wanted_free at m.result env) (λ k next. refl)
  result_free true at None env = refl
  result_free false at m env = refl

  accepted_then : {K : Type 0} (at : ℕ) (m : Option Accepted) (f : Accepted → Rule K) (env : Env) → ((a : Accepted) (next : Env) → Costs a.bound (f a next)) → Costs (call_cost m) (then_judge (judge.is_accepted here at m env) f)
  accepted_then at (Some a) f env h = costs_same (0 + a.bound) a.bound _ (omega arith) (after_costs 0 a.bound 0 no_exits (f a env) refl (h a env))
  accepted_then at None f env h = tt

  call_costs : (w : Bool) (at : ℕ) (m : Seen) (arguments : Trees) (ks : List Kind) (env : Env) → Costs (call_cost m.accepted) (judge.judged_call here w at m arguments ks env)
  call_costs w at m arguments ks env =
      free_then (call_cost m.accepted) (judge.with_result here w at m.accepted env) _ (result_free w at m.accepted env) (λ u e1.
      accepted_then at m.accepted _ e1 (λ a e2.
      free_then a.bound (judge.not_deep here at m.deep e2) _ (not_deep_free at m.deep e2) (λ u e3.
      free_then a.bound (judge.are_within here ks a.args arguments e3) _ (within_free ks a.args arguments e3) (λ u e4.
      free_then a.bound (judge.judged_levels here at a.least e4) _ (holding_free at (λ ms. judge.level_or here (judge.is_level here a.least ms) at) e4.held e4 (λ ms. level_free (judge.is_level here a.least ms) at e4)) (λ u e5. refl)))))

  interface_free : (at : ℕ) (arguments : Trees) (ks : List Kind) (env : Env) → Costs 0 (judge.judged_interface here at arguments ks env)
  interface_free at (more t none) (k ∷ []) env = ruled_then 0 (interface_kind here.width (place t) k) _ env (λ v. refl)
  interface_free at ts ks env = tt

  invoked_costs : (w : Bool) (l : Link) (at s : ℕ) (arguments : Trees) (given : Rule (List Kind)) (env : Env) → may_take l arguments ≡ true → (arguments ≡ none → s ≡ 0) → ((next : Env) → Costs s (given next)) → Costs (named_cost here l + s) (judge.judged_invoked here w l at arguments given env)
  invoked_costs w (link.Method id) at s arguments given env takes empty h =
      costs_same (s + call_cost (here.callee id.0).accepted) _ _ (omega arith)
      (free_then (s + call_cost (here.callee id.0).accepted) (judge.not_reaching here at (here.callee id.0).reaches env) _ (not_reaching_free at (here.callee id.0).reaches env) (λ u e1.
      then_costs s (call_cost (here.callee id.0).accepted) (given e1) _ (h e1) (λ ks e2. call_costs w at (here.callee id.0) arguments ks e2)))
  invoked_costs w link.OsInterfaces at s arguments given env takes empty h =
      costs_same (s + 0) _ _ (omega arith) (then_costs s 0 (given env) _ (h env) (λ ks e1. interface_free at arguments ks e1))
  invoked_costs w (link.Data id) at s none given env takes empty h = costs_same 0 _ _ (let e = empty refl in omega (arith, e)) (content_free at (kind_at here.kinds.shared id.0) env)
  invoked_costs w (link.Own k) at s none given env takes empty h = costs_same 0 _ _ (let e = empty refl in omega (arith, e)) (own_free (field_at here.kinds.fields k) k at env)
  invoked_costs w (link.Field id) at s none given env takes empty h = costs_same (read_cost (here.field id.0)) _ _ (let e = empty refl in omega (arith, e)) (field_costs (here.field id.0) at env)
  invoked_costs w (link.BufferField id) at s none given env takes empty h = costs_same 0 _ _ (let e = empty refl in omega (arith, e)) (buffer_field_free (here.buffer_field id.0) at env)
  invoked_costs w link.Missing at s arguments given env takes empty h = tt
  invoked_costs w (link.Object id) at s arguments given env takes empty h = tt
  invoked_costs w (link.Data id) at s (more t ts) given env takes empty h = absurd cc
  invoked_costs w (link.Own k) at s (more t ts) given env takes empty h = absurd cc
  invoked_costs w (link.Field id) at s (more t ts) given env takes empty h = absurd cc
  invoked_costs w (link.BufferField id) at s (more t ts) given env takes empty h = absurd cc

  -- a target
  written_costs : (f : Option AnyField) (at : ℕ) (k : Kind) (env : Env) → Costs (write_cost f) (judge.judged_written here f at k env)
  written_costs (Some f) at k env = ruled_then (write_count f) (given_kind here.width (place_at at) (layout_of f).bits k) _ env (λ u. refl)
  written_costs None at k env = tt

  buffer_field_stored_costs : (f : Option BufferField) (at : ℕ) (k : Kind) (env : Env) → Costs 1 (judge.judged_buffer_field_stored here f at k env)
  buffer_field_stored_costs (Some f) at k env = ruled_then 1 (buffer_field_stored_kind here.width (place_at at) f (held_kind f.source) k) _ env (λ u. refl)
  buffer_field_stored_costs None at k env = tt

  into_costs : (at : ℕ) (old : Option Kind) (k : Kind) (env : Env) → Costs 1 (judge.judged_into here at old k env)
  into_costs at (Some old) k env = if_costs (may_replace k old) 1 (pays 1 tt) (judge.stops here cause.WrongKind at) env refl tt
  into_costs at None k env = tt

  own_stored_costs : (f : Option BufferField) (i at : ℕ) (k : Kind) (env : Env) → Costs 1 (judge.judged_own_stored here f i at k env)
  own_stored_costs (Some f) i at k env = buffer_field_stored_costs (usable_buffer_field f) at k env
  own_stored_costs None i at k env = into_costs at (kind_at here.kinds.owns i) k env

  name_stored_costs : (l : Link) (at : ℕ) (k : Kind) (env : Env) → Costs (suc (stored_cost here l)) (judge.judged_target here l at k env)
  name_stored_costs (link.Data id) at k env = into_costs at (kind_at here.kinds.shared id.0) k env
  name_stored_costs (link.Own i) at k env = own_stored_costs (field_at here.kinds.fields i) i at k env
  name_stored_costs (link.Field id) at k env =
      costs_same (1 + write_cost (here.field id.0)) _ _ (omega arith) (then_costs 1 (write_cost (here.field id.0)) (step env) _ refl (λ u next. written_costs (here.field id.0) at k next))
  name_stored_costs (link.BufferField id) at k env = buffer_field_stored_costs (here.buffer_field id.0) at k env
  name_stored_costs link.Missing at k env = tt
  name_stored_costs (link.Method id) at k env = tt
  name_stored_costs link.OsInterfaces at k env = tt
  name_stored_costs (link.Object id) at k env = tt

  put_costs : (a : Action) (at : ℕ) (k : Kind) (env : Env) → Costs (target_steps sum a at) (judge.judged_put here a at k env)
  put_costs (Local i) at k env = refl
  put_costs (Argument i) at k env = refl
  put_costs NoTarget at k env = refl
  put_costs Debug at k env = refl
  put_costs Name at k env = name_stored_costs (here.link at) at k env
  put_costs a at k env = tt

  -- a target that is no Index has no part that is evaluated
  other_target : (a : Action) (at : ℕ) (parts : Trees) → ((i : ℕ) → written_role a i ≡ role_is.Skipped) → target_steps sum a at ≡ target_steps sum a at + steps_from sum (written_role a) 0 parts
  other_target a at parts h = let rest = skipped_from (written_role a) h 0 parts in omega (arith, rest)

  untargeted_by : (from : ℕ) (a : Action) (at : ℕ) (parts : Trees) (env : Env) → Costs (target_steps sum a at + steps_from sum (written_role a) 0 parts) (judge.judged_untargeted here from a env)
  untargeted_by from NoTarget at parts env = other_target NoTarget at parts (λ i. refl)
  untargeted_by from a at parts env = tt

  untargeted_costs : (from : ℕ) (g : Tree) (env : Env) → Costs (target_sum g) (judge.judged_untargeted here from (action (operator_of g)) env)
  untargeted_costs from (Node o at stop parts) env = untargeted_by from (action o) at parts env

  leaving_free : (b : Bool) (at : ℕ) (x : Exits) (env : Env) → Costs 0 (judge.leaving here b at x env)
  leaving_free true at x env = refl
  leaving_free false at x env = tt

  -- sums of parts as they stand, and as they are made
  zero_of : (a : ℕ) → a ≡ 0 → 0 ≡ 0 + (a + 0)
  zero_of a e = omega (arith, e)

  zero_of_two : (a b : ℕ) → a ≡ 0 → b ≡ 0 → 0 ≡ 0 + (a + (b + 0))
  zero_of_two a b e f = omega (arith, e, f)

  sum_of : (a : ℕ) → a ≡ 0 + (a + 0)
  sum_of a = omega arith

  sum_of_two : (a b : ℕ) → a + b ≡ 0 + (a + (b + 0))
  sum_of_two a b = omega arith

  sum_of_three : (a b c : ℕ) → a + (b + c) ≡ 0 + (a + (b + (c + 0)))
  sum_of_three a b c = omega arith

  sum_of_four : (a b c d : ℕ) → a + (b + (c + d)) ≡ 0 + (a + (b + (c + (d + 0))))
  sum_of_four a b c d = omega arith

  event_sum : (a : ℕ) → a + 1 ≡ 1 + (a + 0)
  event_sum a = omega arith

  notice_sum : (a b : ℕ) → a ≡ 0 → b + 1 ≡ 1 + (a + (b + 0))
  notice_sum a b e = omega (arith, e)

  changed_sum : (a b c : ℕ) → c ≡ a + b → a + b ≡ 0 + (c + 0)
  changed_sum a b c e = omega (arith, e)

  written_sum : (a b c : ℕ) → a ≡ 0 → c ≡ 0 → b + 1 ≡ 1 + (a + (b + (c + 0)))
  written_sum a b c e f = omega (arith, e, f)

  led_sum : (a b c : ℕ) → 1 + (c + (a + b)) ≡ 1 + (a + (b + (c + 0)))
  led_sum a b c = omega arith

  invoked_sum : (a b c d : ℕ) → b ≡ 0 → d ≡ c → a + c ≡ a + (b + d)
  invoked_sum a b c d e f = omega (arith, e, f)

  invoke_operand : (k : ℕ) → role Invoke (1 + k) ≡ role_is.Operand
  invoke_operand k = by (1 + k) (omega arith)
    where
      by : (n : ℕ) → 1 ≤ n → role Invoke n ≡ role_is.Operand
      by zero le = absurd (omega (arith, le))
      by (suc n) le = let no = never_zero n in rw no refl

  -- a value is wanted of an operator, behind its step
  abbrev rest_by : Action → ℕ → Trees → Env → Judged Kind
  rest_by a at parts env = then_judge ((if is_operand a parts then judged_act here true a at parts else judge.stops here cause.OutsideProfile at) env) (λ y. wanted here at y)

  abbrev value_by : Action → ℕ → Trees → Env → Judged Kind
  value_by a at parts env = then_judge (step env) (λ u next. rest_by a at parts next)

  first_value : (o : Op) (at : ℕ) (parts : Trees) (env : Env) → ((next : Env) → Costs (steps_by sum (action o) at parts) (rest_by (action o) at parts next)) → Costs (first_steps o + steps_by sum (action o) at parts) (value_by (action o) at parts env)
  first_value o at parts env h = by (one_first o)
    where
      by : (first_steps o ≡ 1) ⊎ (action o ≡ Unwritten) → Costs (first_steps o + steps_by sum (action o) at parts) (value_by (action o) at parts env)
      by (inl e) = costs_same (1 + steps_by sum (action o) at parts) _ _ (omega (arith, e)) (then_costs 1 (steps_by sum (action o) at parts) (step env) _ refl (λ u next. h next))
      by (inr e) = subst (λ a. Costs (first_steps o + steps_by sum (action o) at parts) (value_by a at parts env)) (sym e) tt

  abbrev Take : Trees → Type 0
  Take ts = only_calls_take here.link ts ≡ true

  abbrev Takes : Tree → Type 0
  Takes t = calls_alone_take here.link t ≡ true

  first_takes : (t : Tree) (ts : Trees) → Take (more t ts) → Takes t
  first_takes t ts h = (and_parts (calls_alone_take here.link t) (only_calls_take here.link ts) h).0

  rest_take : (t : Tree) (ts : Trees) → Take (more t ts) → Take ts
  rest_take t ts h = (and_parts (calls_alone_take here.link t) (only_calls_take here.link ts) h).1

  parts_take : (o : Op) (at stop : ℕ) (parts : Trees) → Takes (Node o at stop parts) → (takes_rightly here.link (action o) parts ≡ true) × Take parts
  parts_take o at stop parts h = and_parts (takes_rightly here.link (action o) parts) (only_calls_take here.link parts) h

  empty_sum : (ts : Trees) → ts ≡ none → values_sum ts ≡ 0
  empty_sum ts e = ap values_sum e

  -- of If and While no value is wanted
  wanted_costs : (a : Action) (at : ℕ) (parts : Trees) (env : Env) → (IsPlain a → Costs (steps_by sum a at parts) (judged_act here true a at parts env)) → Costs (steps_by sum a at parts) (rest_by a at parts env)
  wanted_costs If at none env h = tt
  wanted_costs If at (more t body) env h = stopped_costs _ _ (nested_stopped (judge.judged_test here t (judged_value here t) env) _ (λ y. wanted here at y) (λ held e1. nested_stopped (meet (judge.refusal here cause.HeldDiffers at) (judge.judged_block here body held) (judge.judged_otherwise here body e1)) _ (λ y. wanted here at y) (λ u e2. tt)))
  wanted_costs While at none env h = tt
  wanted_costs While at (more t body) env h = stopped_costs _ _ (nested_stopped (judge.judged_loop here (judge.shape_of here t body) at body (judge.judged_test here t (judged_value here t)) (judge.judged_all here body) env) _ (λ y. wanted here at y) (λ u e1. tt))
  wanted_costs a at parts env h =
      then_free (steps_by sum a at parts) ((if is_operand a parts then judged_act here true a at parts else judge.stops here cause.OutsideProfile at) env) _
      (if_costs (is_operand a parts) (steps_by sum a at parts) (judged_act here true a at parts) (judge.stops here cause.OutsideProfile at) env (h tt) tt)
      (λ y next. wanted_free at y next)

  mutual
    pub value_costs : (t : Tree) (env : Env) → Takes t → Costs (value_sum t) (judged_value here t env)
    value_costs (Node o at stop parts) env h =
        let two = parts_take o at stop parts h in
        first_value o at parts env (λ next. wanted_costs (action o) at parts next (λ p. act_costs true (action o) at parts next two.0 two.1 p))

    pub act_costs : (w : Bool) (a : Action) (at : ℕ) (parts : Trees) (env : Env) → takes_rightly here.link a parts ≡ true → Take parts → IsPlain a → Costs (steps_by sum a at parts) (judged_act here w a at parts env)
    act_costs w If at parts env h o p = absurd p
    act_costs w While at parts env h o p = absurd p
    act_costs w (Literal q) at parts env h o p = costs_same 0 _ (judged_act here w (Literal q) at parts env) (lone_sum (Literal q) at 0 parts tt (λ i. refl) refl) refl
    act_costs w (Data q) at parts env h o p = costs_same 0 _ _ (lone_sum (Data q) at 0 parts tt (λ i. refl) refl) (literal_free (computed_size q at parts) (kind_by (here.literal q parts)) env)
    act_costs w (Local i) at parts env h o p = costs_same 0 _ _ (lone_sum (Local i) at 0 parts tt (λ i. refl) refl) (slot_free at (slice_get env.locals i) env)
    act_costs w (Argument i) at parts env h o p = costs_same 0 _ _ (lone_sum (Argument i) at 0 parts tt (λ i. refl) refl) (slot_free at (slice_get env.args i) env)
    act_costs w Name at parts env h o p = costs_same (named_cost here (here.link at)) _ _ (lone_sum Name at (named_cost here (here.link at)) parts tt (λ i. refl) refl) (name_costs (here.link at) at env)
    act_costs w Break at parts env h o p = costs_same 0 _ _ (lone_sum Break at 0 parts tt (λ i. refl) refl) (leaving_free env.looped at _ env)
    act_costs w Continue at parts env h o p = costs_same 0 _ _ (lone_sum Continue at 0 parts tt (λ i. refl) refl) (leaving_free env.looped at _ env)
    act_costs w Nothing at parts env h o p = costs_same 0 _ (judged_act here w Nothing at parts env) (lone_sum Nothing at 0 parts tt (λ i. refl) refl) refl
    act_costs w (Binary f) at (more a (more b (more g none))) env h o p =
        costs_same _ _ _ (sum_of_three (value_sum a) (value_sum b) (target_sum g))
        (then_costs (value_sum a) (value_sum b + target_sum g) (judged_value here a env) _ (value_costs a env (first_takes a (more b (more g none)) o)) (λ j e1.
        then_costs (value_sum b) (target_sum g) (judged_value here b e1) _ (value_costs b e1 (first_takes b (more g none) (rest_take a (more b (more g none)) o))) (λ k e2.
        ruled_then (target_sum g) (combined_kind here.width f (place a) j (place b) k (number b)) _ e2 (λ v.
        then_free (target_sum g) (judged_store here g v e2) _ (store_costs g v e2 (first_takes g none (rest_take b (more g none) (rest_take a (more b (more g none)) o)))) (λ u e4. refl)))))
    act_costs w (Unary f) at (more a (more g none)) env h o p =
        costs_same _ _ _ (sum_of_two (value_sum a) (target_sum g))
        (then_costs (value_sum a) (target_sum g) (judged_value here a env) _ (value_costs a env (first_takes a (more g none) o)) (λ k e1.
        ruled_then (target_sum g) (transformed_kind here.width f (place a) k) _ e1 (λ v.
        then_free (target_sum g) (judged_store here g v e1) _ (store_costs g v e1 (first_takes g none (rest_take a (more g none) o))) (λ u e3. refl))))
    act_costs w (ByOne f) at (more a none) env h o p =
        costs_same _ _ _ (changed_sum (value_sum a) (target_sum a) (steps_as sum role_is.Changed a) (changed a))
        (free_then (value_sum a + target_sum a) (judge.judged_placed here a env) _ (placed_free a env) (λ u e1.
        then_costs (value_sum a) (target_sum a) (judged_value here a e1) _ (value_costs a e1 (first_takes a none o)) (λ j e2.
        ruled_then (target_sum a) (combined_kind here.width f (place a) j (place a) (IntUpTo 1) (Some 1)) _ e2 (λ v.
        then_free (target_sum a) (judged_store here a v e2) _ (store_costs a v e2 (first_takes a none o)) (λ u e4. refl)))))
    act_costs w (Compare f) at (more a (more b none)) env h o p =
        costs_same _ _ _ (sum_of_two (value_sum a) (value_sum b))
        (then_costs (value_sum a) (value_sum b) (judged_value here a env) _ (value_costs a env (first_takes a (more b none) o)) (λ j e1.
        then_free (value_sum b) (judged_value here b e1) _ (value_costs b e1 (first_takes b none (rest_take a (more b none) o))) (λ k e2.
        ruled_then 0 (compared_kind here.width f (place a) j (place b) k) _ e2 (λ v. refl))))
    act_costs w LNot at (more a none) env h o p =
        costs_same _ _ _ (sum_of (value_sum a))
        (then_free (value_sum a) (judged_value here a env) _ (value_costs a env (first_takes a none o)) (λ k e1. ruled_then 0 (negated_kind here.width (place a) k) _ e1 (λ v. refl)))
    act_costs w Divide at (more a (more b (more r (more q none)))) env h o p =
        costs_same _ _ _ (sum_of_four (value_sum a) (value_sum b) (target_sum r) (target_sum q))
        (then_costs (value_sum a) (value_sum b + (target_sum r + target_sum q)) (judged_value here a env) _ (value_costs a env (first_takes a (more b (more r (more q none))) o)) (λ j e1.
        then_costs (value_sum b) (target_sum r + target_sum q) (judged_value here b e1) _ (value_costs b e1 (first_takes b (more r (more q none)) (rest_take a (more b (more r (more q none))) o))) (λ k e2.
        ruled_then (target_sum r + target_sum q) (divided_kind here.width (place a) j (place b) k (number b)) _ e2 (λ d.
        then_costs (target_sum r) (target_sum q) (judged_store here r d.remainder e2) _ (store_costs r d.remainder e2 (first_takes r (more q none) (rest_take b (more r (more q none)) (rest_take a (more b (more r (more q none))) o)))) (λ u e4.
        then_free (target_sum q) (judged_store here q d.quotient e4) _ (store_costs q d.quotient e4 (first_takes q none (rest_take r (more q none) (rest_take b (more r (more q none)) (rest_take a (more b (more r (more q none))) o))))) (λ u e5. refl))))))
    act_costs w (Convert f) at (more a (more g none)) env h o p =
        costs_same _ _ _ (sum_of_two (value_sum a) (target_sum g))
        (then_costs (value_sum a) (target_sum g) (judged_value here a env) _ (value_costs a env (first_takes a (more g none) o)) (λ k e1.
        ruled_then (target_sum g) (converted_kind here.width f (place_at at) (place a) k) _ e1 (λ v.
        then_free (target_sum g) (judged_store here g v e1) _ (store_costs g v e1 (first_takes g none (rest_take a (more g none) o))) (λ u e3. refl))))
    act_costs w Concatenate at (more a (more b (more g none))) env h o p =
        costs_same _ _ _ (sum_of_three (value_sum a) (value_sum b) (target_sum g))
        (then_costs (value_sum a) (value_sum b + target_sum g) (judged_value here a env) _ (value_costs a env (first_takes a (more b (more g none)) o)) (λ j e1.
        then_costs (value_sum b) (target_sum g) (judged_value here b e1) _ (value_costs b e1 (first_takes b (more g none) (rest_take a (more b (more g none)) o))) (λ k e2.
        ruled_then (target_sum g) (concatenated_kind (place_at at) (place a) j (place b) k) _ e2 (λ v.
        then_free (target_sum g) (judged_store here g v e2) _ (store_costs g v e2 (first_takes g none (rest_take b (more g none) (rest_take a (more b (more g none)) o)))) (λ u e4. refl)))))
    act_costs w SizeOf at (more a none) env h o p =
        costs_same 0 _ _ (zero_of (steps_as sum role_is.Skipped a) (skipped a)) (then_free 0 (judge.judged_size here a env) _ (size_free a env) (λ v e1. refl))
    act_costs w Dereference at (more a none) env h o p =
        costs_same _ _ _ (sum_of (steps_as sum role_is.Indexed a)) (dereferenced_costs at a env (first_takes a none o))
    act_costs w CondRefOf at (more a (more g none)) env h o p =
        costs_same 0 _ _ (zero_of_two (steps_as sum role_is.Skipped a) (steps_as sum role_is.Skipped g) (skipped a) (skipped g)) (condition_free at a g env)
    act_costs w Store at (more a (more g none)) env h o p =
        costs_same _ _ _ (sum_of_two (value_sum a) (target_sum g))
        (then_costs (value_sum a) (target_sum g) (judged_value here a env) _ (value_costs a env (first_takes a (more g none) o)) (λ v e1.
        then_free (target_sum g) (judged_store here g v e1) _ (store_costs g v e1 (first_takes g none (rest_take a (more g none) o))) (λ u e2. refl)))
    act_costs w Return at (more a none) env h o p =
        costs_same _ _ _ (sum_of (value_sum a))
        (then_free (value_sum a) (judged_value here a env) _ (value_costs a env (first_takes a none o)) (λ v e1.
        then_free 0 (judge.judged_none_held here at e1) _ (none_held_free e1.counts e1.held at e1) (λ u e2. refl)))
    act_costs w Invoke at (more name arguments) env h o p =
        costs_same _ _ _ (invoked_sum (named_cost here (here.link (at_of name))) (steps_as sum role_is.Skipped name) (values_sum arguments) (steps_from sum (role Invoke) 1 arguments) (skipped name) (values_from (role Invoke) 1 invoke_operand arguments))
        (invoked_costs w (here.link (at_of name)) (at_of name) (values_sum arguments) arguments (judged_values here arguments) env h (empty_sum arguments) (λ next. values_costs arguments next (rest_take name arguments o)))
    act_costs w Notify at (more t (more a none)) env h o p =
        costs_same _ _ _ (notice_sum (steps_as sum role_is.Skipped t) (value_sum a) (skipped t))
        (free_then (value_sum a + 1) (judge.judged_notified here (action (operator_of t)) (at_of t) env) _ (notified_free (action (operator_of t)) (at_of t) env) (λ may e1.
        then_costs (value_sum a) 1 (judged_value here a e1) _ (value_costs a e1 (first_takes a none (rest_take t (more a none) o))) (λ k e2.
        ruled_then 1 (notice_kind (place t) may) _ e2 (λ u. ruled_then 1 (integer_kind (place a) k) _ e2 (λ v. refl)))))
    act_costs w (Pause f) at (more a none) env h o p =
        costs_same _ _ _ (event_sum (value_sum a))
        (then_costs (value_sum a) 1 (judged_value here a env) _ (value_costs a env (first_takes a none o)) (λ k e1. ruled_then 1 (integer_kind (place a) k) _ e1 (λ u. refl)))
    act_costs w Acquire at (more t (more timeout none)) env h o p =
        costs_same 0 _ _ (zero_of_two (steps_as sum role_is.Skipped t) (steps_as sum role_is.Skipped timeout) (skipped t) (skipped timeout))
        (then_free 0 (judge.judged_mutex here at (action (operator_of t)) (at_of t) env) _ (mutex_free at (action (operator_of t)) (at_of t) env) (λ m e1.
        then_free 0 (judge.judged_taken here at m e1) _ (holding_free at (λ ms. judge.taken_or here (nat_le (greatest_level 0 ms) m.level) at m ms) e1.held e1 (λ ms. taken_free (nat_le (greatest_level 0 ms) m.level) at m ms e1)) (λ u e2. refl)))
    act_costs w Release at (more t none) env h o p =
        costs_same 0 _ _ (zero_of (steps_as sum role_is.Skipped t) (skipped t))
        (then_free 0 (judge.judged_mutex here at (action (operator_of t)) (at_of t) env) _ (mutex_free at (action (operator_of t)) (at_of t) env) (λ m e1.
        then_free 0 (judge.judged_released here at m e1) _ (holding_free at (λ ms. judge.released_or here (without_last m.object.0 ms) at) e1.held e1 (λ ms. released_free (without_last m.object.0 ms) at e1)) (λ u e2. refl)))
    act_costs w a at parts env h o p = tt

    store_costs : (t : Tree) (k : Kind) (env : Env) → Takes t → Costs (target_sum t) (judged_store here t k env)
    store_costs (Node o at stop parts) k env h = stored_costs (action o) at parts k env (parts_take o at stop parts h).1

    stored_costs : (a : Action) (at : ℕ) (parts : Trees) (k : Kind) (env : Env) → Take parts → Costs (target_steps sum a at + steps_from sum (written_role a) 0 parts) (judged_stored here a at parts k env)
    stored_costs Index at (more x (more i (more g none))) k env o =
        costs_same _ _ _ (written_sum (steps_as sum role_is.Skipped x) (value_sum i) (steps_as sum role_is.Skipped g) (skipped x) (skipped g))
        (free_then (value_sum i + 1) (judge.judged_indexed here at (action (operator_of g)) x env) _ (indexed_free at (action (operator_of g)) x env) (λ from e1.
        then_costs (value_sum i) 1 (judged_value here i e1) _ (value_costs i e1 (first_takes i (more g none) (rest_take x (more i (more g none)) o))) (λ j e2.
        ruled_then 1 (byte_written_kind (place_at at) (place_at from) (held_kind (here.link from)) (place i) j k) _ e2 (λ u. refl))))
    stored_costs Index at none k env o = tt
    stored_costs Index at (more x none) k env o = tt
    stored_costs Index at (more x (more i none)) k env o = tt
    stored_costs Index at (more x (more i (more g (more q ts)))) k env o = tt
    stored_costs a at parts k env o = costs_same (target_steps sum a at) _ (judged_stored here a at parts k env) (other_target a at parts (λ i. refl)) (put_costs a at k env)

    dereferenced_costs : (at : ℕ) (t : Tree) (env : Env) → Takes t → Costs (steps_as sum role_is.Indexed t) (judged_dereferenced here at t env)
    dereferenced_costs at (Node o from stop parts) env h = led_costs at (action o) from parts env (parts_take o from stop parts h).1

    led_costs : (at : ℕ) (a : Action) (from : ℕ) (parts : Trees) (env : Env) → Take parts → Costs (index_steps a + steps_from sum (read_role a) 0 parts) (judged_led here a at from parts env)
    led_costs at Index from (more a (more i (more g none))) env o =
        costs_same _ _ _ (led_sum (value_sum a) (value_sum i) (target_sum g))
        (then_costs 1 (target_sum g + (value_sum a + value_sum i)) (step env) _ refl (λ u e1.
        then_costs (target_sum g) (value_sum a + value_sum i) (judge.judged_untargeted here from (action (operator_of g)) e1) _ (untargeted_costs from g e1) (λ u e2.
        then_costs (value_sum a) (value_sum i) (judged_value here a e2) _ (value_costs a e2 (first_takes a (more i (more g none)) o)) (λ j e3.
        then_free (value_sum i) (judged_value here i e3) _ (value_costs i e3 (first_takes i (more g none) (rest_take a (more i (more g none)) o))) (λ k e4.
        ruled_then 0 (led_kind (place_at from) (place a) j (place i) k (number i)) (λ v. goes (Always v)) e4 (λ v. refl))))))
    led_costs at a from parts env o = tt

    values_costs : (ts : Trees) (env : Env) → Take ts → Costs (values_sum ts) (judged_values here ts env)
    values_costs none env o = refl
    values_costs (more t ts) env o =
        then_costs (value_sum t) (values_sum ts) (judged_value here t env) _ (value_costs t env (first_takes t ts o)) (λ k e1.
        then_free (values_sum ts) (judged_values here ts e1) _ (values_costs ts e1 (rest_take t ts o)) (λ ks e2. refl))
