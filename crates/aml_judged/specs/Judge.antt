-- The kind rules and the bound: how a term changes what is known, what it costs, and where it could
-- go wrong.
use Rattle.std.specs.Prelude.{ℕ, suc, ◌+◌, ◌-◌, ◌*◌, ◌%◌, ◌^◌, ◌&&◌, ◌++◌, nat_le, List, [], ◌∷◌, Option, Some, None, unwrap_or, slice_get, Bool, true, false, if◌then◌else◌}
use Rattle.aml_operators.specs.Shape.{operator_of}
use Rattle.aml_operators.specs.Literal.{literal_in}
use Rattle.aml_operators.specs.Tree.{Tree, Trees, Node, none, more}
use Rattle.aml_namespace.specs.declared.link.Link.{Link}
use Rattle.aml_objects.specs.declared.object.Object.{Object}
use Rattle.aml_kinds.specs.Kinds.{Kind, IntUpTo}
use Rattle.aml_contents.specs.Contents.{kind_at}
use Rattle.aml_contents.specs.FirstKinds.{kind_by}
use Rattle.aml_contents.specs.BodyData.{computed_size}
use Rattle.aml_meaning.specs.declared.action.Action.{Action}
use Rattle.aml_meaning.specs.declared.action.Action.TheVariants.{Data, Unary, LNot, Divide, Convert, Concatenate, SizeOf, CondRefOf, Index, Debug, Notify, Pause, Literal, Local, Argument, Name, Binary, ByOne, Compare, Store, Return, If, While, Break, Continue, Nothing, Invoke, NoTarget, Dereference, Acquire, Release}
use Rattle.aml_meaning.specs.Notices.{is_notifiable}
use Rattle.aml_meaning.specs.declared.mutex.TakenMutex.{TakenMutex}
use Rattle.aml_meaning.specs.declared.buffer_field.BufferField.{BufferField}
use Rattle.aml_meaning.specs.BufferFields.{usable_buffer_field}
use Rattle.aml_meaning.specs.Mutexes.{without_last}
use Rattle.aml_meaning.specs.Owns.{field_at}
use Rattle.aml_meaning.specs.Rules.{Place}
use Rattle.aml_meaning.specs.State.{greatest_level}
use Rattle.aml_meaning.specs.Fields.{read_count, write_count}
use Rattle.aml_regions.specs.Fields.{layout_of}
use Rattle.aml_regions.specs.declared.field.AnyField.{AnyField}
use Rattle.aml_meaning.specs.Actions.{action}
use Rattle.aml_meaning.specs.Meaning.{at_of, is_else}
use Rattle.aml_judged.specs.Causes.{Cause, Refusal}
use Rattle.aml_judged.specs.Known.{greatest, Slot, Held, These, Different, Env, within, with_local, with_arg, with_mutexes, ended, in_loop, join_env, end_within, holds_as, widened, lower}
use Rattle.aml_judged.specs.Judged.{Yield, Always, Never, Accepted, Seen, Around, Exits, no_exits, Judged, Goes, Stops, after, then_judge, Rule, ◌>>=◌, pays, goes, step, ruled, taking, agreed, meet}
use Rattle.aml_judged.specs.KindRules.{integer_kind, combined_kind, transformed_kind, negated_kind, divided_kind, converted_kind, concatenated_kind, size_kind, interface_kind, notice_kind, led_kind, compared_kind, field_kind, given_kind, byte_written_kind, source_kind, buffer_field_stored_kind, may_replace}
use Rattle.aml_bounds.specs.Loops as loops
use Rattle.aml_bounds.specs.Shapes.{is_operand, Shape, Once, Up, Down, Endless, is_local, is_arg, assigns_in}
use Rattle.aml_namespace.specs.declared.link.Link.TheVariants as link
use Rattle.aml_objects.specs.declared.object.Object.TheVariants as object
use Rattle.aml_meaning.specs.declared.action.Comparison.TheVariants as comparison
use Rattle.aml_judged.specs.Causes as cause
use Rattle.aml_meaning.specs.declared.definition.Definition.{Definition}
use Rattle.aml_meaning.specs.declared.definition.Definition.TheVariants as makes
use Rattle.aml_meaning.specs.Definitions.{definition}

module _ (here : Around) where
  abbrev pub place_at : ℕ → Place
  place_at at = record { table = here.table; at = at }

  abbrev pub place : Tree → Place
  place t = place_at (at_of t)

  abbrev pub refusal : Cause → ℕ → Refusal
  refusal why at = record { table = here.table; at = at; why = why }

  abbrev pub stops : {K : Type 0} → Cause → ℕ → Rule K
  stops why at = λ env. Stops (refusal why at)

  abbrev pub wanted : ℕ → Yield → Rule Kind
  wanted at (Always k) = goes k
  wanted at y = stops cause.NoResult at

  abbrev pub judged_slot : ℕ → Option Slot → Rule Yield
  judged_slot at (Some (Some k)) = goes (Always k)
  judged_slot at slot = stops cause.Unset at

  abbrev pub judged_local : ℕ → ℕ → Rule Yield
  judged_local at i = λ env. judged_slot at (slice_get env.locals i) env

  abbrev pub judged_arg : ℕ → ℕ → Rule Yield
  judged_arg at i = λ env. judged_slot at (slice_get env.args i) env

  abbrev pub judged_content : ℕ → Option Kind → Rule Yield
  judged_content at (Some k) = goes (Always k)
  judged_content at None = stops cause.WrongKind at

  -- a field of a region, where it can be read and written; it costs its events
  abbrev pub judged_field : Option AnyField → ℕ → Rule Yield
  judged_field (Some f) at = pays (read_count f) (Always (field_kind here.width (layout_of f).bits))
  judged_field None at = stops cause.Region at

  abbrev pub judged_written : Option AnyField → ℕ → Kind → Rule (Unit {0})
  judged_written (Some f) at k = do
    _ ← ruled (given_kind here.width (place_at at) (layout_of f).bits k)
    pays (write_count f) tt
  judged_written None at k = stops cause.Region at

  -- a store's step, and then its events
  abbrev pub judged_field_stored : Option AnyField → ℕ → Kind → Rule (Unit {0})
  judged_field_stored o at k = do
    _ ← step
    judged_written o at k

  -- the kind of what a data name or an own name holds
  abbrev pub held_kind : Link → Option Kind
  held_kind (link.Data id) = kind_at here.kinds.shared id.0
  held_kind (link.Own k) = kind_at here.kinds.owns k
  held_kind l = None

  -- a field of a buffer, where it can be read and written
  abbrev pub judged_buffer_field : Option BufferField → ℕ → Rule Yield
  judged_buffer_field (Some f) at = do
    _ ← ruled (source_kind (place_at at) f (held_kind f.source))
    goes (Always (field_kind here.width f.bits))
  judged_buffer_field None at = stops cause.Region at

  abbrev pub judged_buffer_field_stored : Option BufferField → ℕ → Kind → Rule (Unit {0})
  judged_buffer_field_stored (Some f) at k = do
    _ ← ruled (buffer_field_stored_kind here.width (place_at at) f (held_kind f.source) k)
    pays 1 tt
  judged_buffer_field_stored None at k = stops cause.Region at

  -- an own name, or the field of a buffer that it is
  abbrev pub judged_own : Option BufferField → ℕ → ℕ → Rule Yield
  judged_own (Some f) k at = judged_buffer_field (usable_buffer_field f) at
  judged_own None k at = judged_content at (kind_at here.kinds.owns k)

  abbrev pub judged_name : Link → ℕ → Rule Yield
  judged_name (link.Data id) at = judged_content at (kind_at here.kinds.shared id.0)
  judged_name (link.Own k) at = judged_own (field_at here.kinds.fields k) k at
  judged_name link.Missing at = stops cause.Unresolved at
  judged_name (link.Field id) at = judged_field (here.field id.0) at
  judged_name (link.BufferField id) at = judged_buffer_field (here.buffer_field id.0) at
  judged_name l at = stops cause.WrongKind at

  -- a target's step, and what may be stored into it
  abbrev pub judged_into : ℕ → Option Kind → Kind → Rule (Unit {0})
  judged_into at (Some old) k = if may_replace k old then pays 1 tt else stops cause.WrongKind at
  judged_into at None k = stops cause.WrongKind at

  abbrev pub judged_own_stored : Option BufferField → ℕ → ℕ → Kind → Rule (Unit {0})
  judged_own_stored (Some f) i at k = judged_buffer_field_stored (usable_buffer_field f) at k
  judged_own_stored None i at k = judged_into at (kind_at here.kinds.owns i) k

  abbrev pub judged_target : Link → ℕ → Kind → Rule (Unit {0})
  judged_target (link.Data id) at k = judged_into at (kind_at here.kinds.shared id.0) k
  judged_target (link.Own i) at k = judged_own_stored (field_at here.kinds.fields i) i at k
  judged_target link.Missing at k = stops cause.Unresolved at
  judged_target (link.Field id) at k = judged_field_stored (here.field id.0) at k
  judged_target (link.BufferField id) at k =
      judged_buffer_field_stored (here.buffer_field id.0) at k
  judged_target l at k = stops cause.WrongKind at

  abbrev pub judged_put : Action → ℕ → Kind → Rule (Unit {0})
  judged_put (Local i) at k = λ env. Goes tt (with_local env i k) no_exits 1
  judged_put (Argument i) at k = λ env. Goes tt (with_arg env i k) no_exits 1
  judged_put NoTarget at k = goes tt
  judged_put Debug at k = pays 1 tt
  judged_put Name at k = judged_target (here.link at) at k
  judged_put other at k = stops cause.OutsideProfile at

  -- the place of the name that a written Index is of: alone, or with arguments, which are not
  -- judged
  abbrev pub judged_bound : Link → ℕ → Rule ℕ
  judged_bound link.Missing at = stops cause.Unresolved at
  judged_bound l at = goes at

  abbrev pub judged_name_indexed : ℕ → Action → ℕ → Trees → Rule ℕ
  judged_name_indexed at Name from parts = judged_bound (here.link from) from
  judged_name_indexed at Invoke from (more name arguments) =
      judged_bound (here.link (at_of name)) (at_of name)
  judged_name_indexed at other from parts = stops cause.OutsideProfile at

  -- an Index that is written has no target of its own, and is of a name (own)
  abbrev pub judged_indexed : ℕ → Action → Tree → Rule ℕ
  judged_indexed at NoTarget (Node o from stop parts) = judged_name_indexed at (action o) from parts
  judged_indexed at into x = stops cause.OutsideProfile at

  abbrev pub judged_in_place : Action → ℕ → Rule (Unit {0})
  judged_in_place Dereference at = stops cause.OutsideProfile at
  judged_in_place a at = goes tt

  abbrev pub judged_placed : Tree → Rule (Unit {0})
  judged_placed (Node o at stop parts) = judged_in_place (action o) at

  -- a literal of data, unless a size in it is computed (own)
  abbrev pub judged_literal : Option ℕ → Kind → Rule Yield
  judged_literal None k = goes (Always k)
  judged_literal (Some from) k = stops cause.OutsideProfile from

  -- what SizeOf measures: a local, an argument, a data name or an own name (own)
  abbrev pub judged_slot_seen : ℕ → Option Slot → Rule Kind
  judged_slot_seen at (Some (Some k)) = goes k
  judged_slot_seen at slot = stops cause.Unset at

  abbrev pub judged_content_seen : ℕ → Option Kind → Rule Kind
  judged_content_seen at (Some k) = goes k
  judged_content_seen at None = stops cause.WrongKind at

  abbrev pub judged_own_seen : Option BufferField → ℕ → ℕ → Rule Kind
  judged_own_seen (Some f) k at = stops cause.WrongKind at
  judged_own_seen None k at = judged_content_seen at (kind_at here.kinds.owns k)

  abbrev pub judged_name_seen : Link → ℕ → Rule Kind
  judged_name_seen (link.Data id) at = judged_content_seen at (kind_at here.kinds.shared id.0)
  judged_name_seen (link.Own k) at = judged_own_seen (field_at here.kinds.fields k) k at
  judged_name_seen link.Missing at = stops cause.Unresolved at
  judged_name_seen l at = stops cause.WrongKind at

  abbrev pub judged_seen : Action → ℕ → Rule Kind
  judged_seen (Local i) at = λ env. judged_slot_seen at (slice_get env.locals i) env
  judged_seen (Argument i) at = λ env. judged_slot_seen at (slice_get env.args i) env
  judged_seen Name at = judged_name_seen (here.link at) at
  judged_seen other at = stops cause.OutsideProfile at

  abbrev pub judged_size : Tree → Rule Kind
  judged_size (Node o at stop parts) = do
    k ← judged_seen (action o) at
    ruled (size_kind here.width (place_at at) k)

  -- CondRefOf is asked of a name alone, and has no target (own)
  abbrev pub judged_asked : Action → Action → ℕ → Rule Yield
  judged_asked Name NoTarget at = goes (Always (IntUpTo (greatest here.width)))
  judged_asked what into at = stops cause.OutsideProfile at

  abbrev pub judged_condition : ℕ → Tree → Tree → Rule Yield
  judged_condition at (Node o from stop parts) (Node target behind end others) =
      judged_asked (action o) (action target) at

  -- whether what a Notify names can be notified; a local and an argument are none, and are not read
  abbrev pub judged_notified_name : Link → ℕ → Rule Bool
  judged_notified_name link.Missing at = stops cause.Unresolved at
  judged_notified_name (link.Object id) at = goes (is_notifiable (here.object id.0))
  judged_notified_name l at = goes false

  abbrev pub judged_notified : Action → ℕ → Rule Bool
  judged_notified Name at = judged_notified_name (here.link at) at
  judged_notified (Local k) at = goes false
  judged_notified (Argument k) at = goes false
  judged_notified other at = stops cause.OutsideProfile at

  -- an Index that is read has no target of its own (own)
  abbrev pub judged_untargeted : ℕ → Action → Rule (Unit {0})
  judged_untargeted at NoTarget = goes tt
  judged_untargeted at into = stops cause.OutsideProfile at

  -- the mutex that the object with a number is, named at a place, for an operator at another; the
  -- global lock is outside
  abbrev pub judged_mutex_numbered : ℕ → ℕ → ℕ → Option Object → Rule TakenMutex
  judged_mutex_numbered at from k (Some (object.Mutex level)) =
      goes (record { object = record { 0 = k }; level = level })
  judged_mutex_numbered at from k (Some object.GlobalLock) = stops cause.OutsideProfile at
  judged_mutex_numbered at from k o = stops cause.WrongKind from

  abbrev pub judged_mutex_named : ℕ → ℕ → Link → Rule TakenMutex
  judged_mutex_named at from link.Missing = stops cause.Unresolved from
  judged_mutex_named at from (link.Object id) =
      judged_mutex_numbered at from id.0 (here.object id.0)
  judged_mutex_named at from l = stops cause.WrongKind from

  -- the mutex that an operand of Acquire or Release at a place is, which stands at another; a local
  -- and an argument are none, and are not read
  abbrev pub judged_mutex : ℕ → Action → ℕ → Rule TakenMutex
  judged_mutex at Name from = judged_mutex_named at from (here.link from)
  judged_mutex at (Local k) from = stops cause.WrongKind from
  judged_mutex at (Argument k) from = stops cause.WrongKind from
  judged_mutex at other from = stops cause.OutsideProfile from

  -- with the mutexes that are held; where ways hold different ones, that was told where they met
  abbrev pub holding_by : {K : Type 0} → ℕ → (List TakenMutex → Rule K) → Held → Rule K
  holding_by at rule (These ms) = rule ms
  holding_by at rule Different = stops cause.HeldDiffers at

  abbrev pub holding : {K : Type 0} → ℕ → (List TakenMutex → Rule K) → Rule K
  holding at rule = λ env. holding_by at rule env.held env

  -- a mutex is taken: its level is at least each that this method holds
  abbrev pub taken_or : Bool → ℕ → TakenMutex → List TakenMutex → Rule (Unit {0})
  taken_or true at m ms = λ env. Goes tt (with_mutexes env (ms ++ m ∷ [])) (taking (Some m.level)) 0
  taken_or false at m ms = stops cause.Level at

  abbrev pub judged_taken : ℕ → TakenMutex → Rule (Unit {0})
  judged_taken at m = holding at (λ ms. taken_or (nat_le (greatest_level 0 ms) m.level) at m ms)

  -- a mutex is released: the last that this method took
  abbrev pub released_or : Option (List TakenMutex) → ℕ → Rule (Unit {0})
  released_or (Some ms) at = λ env. Goes tt (with_mutexes env ms) no_exits 0
  released_or None at = stops cause.NotHeld at

  abbrev pub judged_released : ℕ → TakenMutex → Rule (Unit {0})
  judged_released at m = holding at (λ ms. released_or (without_last m.object.0 ms) at)

  -- no mutex is held where the method ends by a way that counts
  abbrev pub none_held_at : Bool → Held → ℕ → Rule (Unit {0})
  none_held_at false held at = goes tt
  none_held_at true (These []) at = goes tt
  none_held_at true held at = stops cause.StillHeld at

  abbrev pub judged_none_held : ℕ → Rule (Unit {0})
  judged_none_held at = λ env. none_held_at env.counts env.held at env

  -- a call: the least level that its method takes is at least each that this method holds
  abbrev pub is_level : Option ℕ → List TakenMutex → Bool
  is_level None ms = true
  is_level (Some least) ms = nat_le (greatest_level 0 ms) least

  abbrev pub level_or : Bool → ℕ → Rule (Unit {0})
  level_or true at = goes tt
  level_or false at = stops cause.Level at

  abbrev pub judged_levels : ℕ → Option ℕ → Rule (Unit {0})
  judged_levels at least = holding at (λ ms. level_or (is_level least ms) at)

  -- what a call gives, within its bound; its method takes what it takes
  abbrev pub calling : Accepted → Rule Yield
  calling a = λ env. Goes a.result env (taking a.least) a.bound

  -- exits, where they count
  abbrev pub if_counts : {X : Type 0} → Bool → X → Option X
  if_counts true x = Some x
  if_counts false x = None

  abbrev pub returning : Kind → Rule Yield
  returning k env = Goes Never (ended env) (record no_exits { returned = if_counts env.counts k }) 0

  abbrev pub leaving : Bool → ℕ → Exits → Env → Judged Yield
  leaving true at x env = Goes Never (ended env) x 0
  leaving false at x env = Stops (refusal cause.OutsideProfile at)

  abbrev pub breaking : ℕ → Rule Yield
  breaking at env = leaving env.looped at (record no_exits { broke = if_counts env.counts env }) env

  abbrev pub continuing : ℕ → Rule Yield
  continuing at env =
      leaving env.looped at (record no_exits { continued = if_counts env.counts env }) env

  -- the arguments of a call fit what its method takes
  abbrev pub are_within : List Kind → List Kind → Trees → Rule (Unit {0})
  are_within [] [] none = goes tt
  are_within (k ∷ ks) (a ∷ as') (more t ts) =
      if within k a then are_within ks as' ts else stops cause.WrongKind (at_of t)
  are_within ks as' ts = stops cause.OutsideProfile 0

  abbrev pub not_reaching : ℕ → Bool → Rule (Unit {0})
  not_reaching at true = stops cause.Cycle at
  not_reaching at false = goes tt

  -- a value is wanted of a call: a method that is refused has no result
  abbrev pub with_result : Bool → ℕ → Option Accepted → Rule (Unit {0})
  with_result true at (Some m) = λ env. then_judge (wanted at m.result env) (λ k. goes tt)
  with_result w at m = goes tt

  abbrev pub is_accepted : ℕ → Option Accepted → Rule Accepted
  is_accepted at (Some m) = goes m
  is_accepted at None = stops cause.CalleeRefused at

  abbrev pub not_deep : ℕ → Bool → Rule (Unit {0})
  not_deep at true = stops cause.Depth at
  not_deep at false = goes tt

  -- a call behind its arguments
  abbrev pub judged_call : Bool → ℕ → Seen → Trees → List Kind → Rule Yield
  judged_call w at m arguments ks = do
    _ ← with_result w at m.accepted
    a ← is_accepted at m.accepted
    _ ← not_deep at m.deep
    _ ← are_within ks a.args arguments
    _ ← judged_levels at a.least
    calling a

  -- `_OSI` of its one argument
  abbrev pub judged_interface : ℕ → Trees → List Kind → Rule Yield
  judged_interface at (more a none) (k ∷ []) = do
    v ← ruled (interface_kind here.width (place a) k)
    goes (Always v)
  judged_interface at arguments ks = stops cause.OutsideProfile at

  abbrev pub judged_invoked : Bool → Link → ℕ → Trees → Rule (List Kind) → Rule Yield
  judged_invoked w (link.Method id) at arguments given = do
    _ ← not_reaching at (here.callee id.0).reaches
    ks ← given
    judged_call w at (here.callee id.0) arguments ks
  judged_invoked w (link.Data id) at arguments given =
      judged_content at (kind_at here.kinds.shared id.0)
  judged_invoked w (link.Own k) at arguments given = judged_own (field_at here.kinds.fields k) k at
  judged_invoked w link.OsInterfaces at arguments given = do
    ks ← given
    judged_interface at arguments ks
  judged_invoked w (link.Field id) at arguments given = judged_field (here.field id.0) at
  judged_invoked w (link.BufferField id) at arguments given =
      judged_buffer_field (here.buffer_field id.0) at
  judged_invoked w link.Missing at arguments given = stops cause.Unresolved at
  judged_invoked w (link.Object id) at arguments given = stops cause.WrongKind at

  -- the number of an integer literal, and a loop's shape, over integers of this width
  abbrev pub number_of : Tree → Option ℕ
  number_of = loops.number_of here.width

  abbrev pub shape_of : Tree → Trees → Shape
  shape_of = loops.shape_of here.width

  -- what is known where a loop begins, each time
  abbrev pub begun : Trees → Env → Env
  begun body env = record env {
    locals = widened (λ i. assigns_in (is_local i) body) here.width 0 env.locals;
    args = widened (λ i. assigns_in (is_arg i) body) here.width 0 env.args;
    looped = true;
  }

  abbrev pub exit_within : Option Env → Env → Bool
  exit_within None start = true
  exit_within (Some env) start = end_within env start

  abbrev pub comes_back : Env → Option Env → Env → Bool
  comes_back end continued start = end_within end start && exit_within continued start

  abbrev pub exit_holds : Option Env → Env → Bool
  exit_holds None start = true
  exit_holds (Some env) start = holds_as env start

  -- what goes back to the test holds what the loop began with, and what breaks holds what is held
  -- behind the test; the tests of such loops take and release nothing, so these are the same
  abbrev pub holds_back : Env → Exits → Env → Env → Bool
  holds_back end x start tested =
      holds_as end start && (exit_holds x.continued start && exit_holds x.broke tested)

  -- behind a loop stands what stood behind its failed test and at its Breaks
  abbrev pub after_loop : Option Env → Env → Env
  after_loop None env = env
  after_loop (Some b) env = join_env env b

  abbrev pub past : Bool → Env → Exits → ℕ → Judged (Unit {0})
  past outer et x cost =
      Goes tt (in_loop outer (after_loop x.broke et))
      (record x { broke = None; continued = None }) cost

  -- a loop that ends in its first turn, from its test
  abbrev pub once_ended : Bool → ℕ → Env → Judged (Unit {0}) → Judged (Unit {0})
  once_ended outer at et (Goes u eb x m) =
      agreed (exit_holds x.broke et) (refusal cause.HeldDiffers at) (past outer et x m)
  once_ended outer at et (Stops r) = Stops r

  abbrev pub once : Bool → ℕ → Judged Env → Rule (Unit {0}) → Judged (Unit {0})
  once outer at (Goes held et xt n) body = after xt n (once_ended outer at et (body held))
  once outer at (Stops r) body = Stops r

  -- one that makes so many turns at most: kinds are asked first, and then what is held
  abbrev pub closed : Bool → ℕ → ℕ → Bool → Bool → Env → Exits → ℕ → Judged (Unit {0})
  closed outer turns at true holds et x n =
      agreed holds (refusal cause.HeldDiffers at) (past outer et x (turns * n))
  closed outer turns at false holds et x n = Stops (refusal cause.WrongKind at)

  abbrev pub turned : Bool → ℕ → ℕ → ℕ → Env → Env → Judged (Unit {0}) → Judged (Unit {0})
  turned outer turns at n start et (Goes u eb x m) =
      closed outer turns at (comes_back eb x.continued start) (holds_back eb x start et)
      et x (n + m)
  turned outer turns at n start et (Stops r) = Stops r

  abbrev pub often : Bool → ℕ → ℕ → Env → Judged Env → Rule (Unit {0}) → Judged (Unit {0})
  often outer turns at start (Goes held et xt n) body =
      after xt n (turned outer turns at n start et (body held))
  often outer turns at start (Stops r) body = Stops r

  -- one that falls from a local's greatest; where the local has no integer kind, the test tells
  abbrev pub falling : Option Slot → ℕ → ℕ → Trees → Rule Env → Rule (Unit {0}) → Rule (Unit {0})
  falling (Some (Some (IntUpTo a))) c at ts test body env =
      often env.looped (a - c) at (begun ts env) (test (begun ts env)) body
  falling slot c at ts test body env =
      then_judge (test (begun ts env)) (λ u et. Stops (refusal cause.LoopShape at))

  abbrev pub judged_loop : Shape → ℕ → Trees → Rule Env → Rule (Unit {0}) → Rule (Unit {0})
  judged_loop Once at ts test body env = once env.looped at (test (in_loop true env)) body
  judged_loop (Up l c) at ts test body env =
      often env.looped c at (begun ts env) (test (begun ts env)) body
  judged_loop (Down l c) at ts test body env =
      falling (slice_get env.locals l) c at ts test body env
  judged_loop Endless at ts test body env = Stops (refusal cause.LoopShape at)

  -- where LLess (X, c) held, X a local or an argument and c a literal that is not zero, X is below
  -- c
  abbrev pub narrowed_by : Action → Option ℕ → Env → Env
  narrowed_by (Local i) (Some (suc n)) env = record env { locals = lower env.locals i n }
  narrowed_by (Argument i) (Some (suc n)) env = record env { args = lower env.args i n }
  narrowed_by a o env = env

  abbrev pub narrowed_act : Action → Trees → Env → Env
  narrowed_act (Compare comparison.LLess) (more (Node x at stop none) (more c none)) env =
      narrowed_by (action x) (number_of c) env
  narrowed_act a parts env = env

  abbrev pub narrowed : Tree → Env → Env
  narrowed (Node o at stop parts) env = narrowed_act (action o) parts env

  -- an integer is wanted of a test; with what is known where it held
  abbrev pub judged_test : Tree → Rule Kind → Rule Env
  judged_test t test = do
    k ← test
    _ ← ruled (integer_kind (place t) k)
    λ env. goes (narrowed t env) env

  -- a definition stands at the top of a body, and nowhere else
  abbrev pub not_defined : Definition → ℕ → Rule Yield → Rule Yield
  not_defined makes.Nothing at rule = rule
  not_defined what at rule = stops cause.LocalName at

  abbrev mutual
    -- a term's step is taken before its operands
    pub judged : Tree → Rule Yield
    judged (Node o at stop parts) = do
      _ ← step
      not_defined (definition o) at (judged_act false (action o) at parts)

    -- the value of a term, where one is wanted
    pub judged_value : Tree → Rule Kind
    judged_value (Node o at stop parts) = do
      _ ← step
      y ← if is_operand (action o) parts then judged_act true (action o) at parts
          else stops cause.OutsideProfile at
      wanted at y

    pub judged_act : Bool → Action → ℕ → Trees → Rule Yield
    judged_act w (Literal o) at parts =
        goes (Always (IntUpTo (unwrap_or (literal_in o parts) 0 % 2 ^ here.width)))
    judged_act w (Data o) at parts =
        judged_literal (computed_size o at parts) (kind_by (here.literal o parts))
    judged_act w (Local i) at parts = judged_local at i
    judged_act w (Argument i) at parts = judged_arg at i
    judged_act w (Binary f) at (more a (more b (more g none))) = do
      j ← judged_value a
      k ← judged_value b
      v ← ruled (combined_kind here.width f (place a) j (place b) k (number_of b))
      _ ← judged_store g v
      goes (Always v)
    judged_act w (Unary f) at (more a (more g none)) = do
      k ← judged_value a
      v ← ruled (transformed_kind here.width f (place a) k)
      _ ← judged_store g v
      goes (Always v)
    judged_act w (ByOne f) at (more a none) = do
      _ ← judged_placed a
      j ← judged_value a
      v ← ruled (combined_kind here.width f (place a) j (place a) (IntUpTo 1) (Some 1))
      _ ← judged_store a v
      goes (Always v)
    judged_act w (Compare f) at (more a (more b none)) = do
      j ← judged_value a
      k ← judged_value b
      v ← ruled (compared_kind here.width f (place a) j (place b) k)
      goes (Always v)
    judged_act w LNot at (more a none) = do
      k ← judged_value a
      v ← ruled (negated_kind here.width (place a) k)
      goes (Always v)
    judged_act w Divide at (more a (more b (more r (more q none)))) = do
      j ← judged_value a
      k ← judged_value b
      d ← ruled (divided_kind here.width (place a) j (place b) k (number_of b))
      _ ← judged_store r d.remainder
      _ ← judged_store q d.quotient
      goes (Always d.quotient)
    judged_act w (Convert f) at (more a (more g none)) = do
      k ← judged_value a
      v ← ruled (converted_kind here.width f (place_at at) (place a) k)
      _ ← judged_store g v
      goes (Always v)
    judged_act w Concatenate at (more a (more b (more g none))) = do
      j ← judged_value a
      k ← judged_value b
      v ← ruled (concatenated_kind (place_at at) (place a) j (place b) k)
      _ ← judged_store g v
      goes (Always v)
    judged_act w SizeOf at (more a none) = do
      v ← judged_size a
      goes (Always v)
    judged_act w Dereference at (more a none) = judged_dereferenced at a
    judged_act w CondRefOf at (more a (more g none)) = judged_condition at a g
    judged_act w Store at (more a (more g none)) = do
      v ← judged_value a
      _ ← judged_store g v
      goes (Always v)
    judged_act w Return at (more a none) = do
      v ← judged_value a
      _ ← judged_none_held at
      returning v
    judged_act w If at (more t body) = do
      held ← judged_test t (judged_value t)
      _ ← λ env. meet (refusal cause.HeldDiffers at)
          (judged_block body held) (judged_otherwise body env)
      goes Never
    judged_act w While at (more t body) = do
      _ ← judged_loop (shape_of t body) at body (judged_test t (judged_value t)) (judged_all body)
      goes Never
    judged_act w Break at parts = breaking at
    judged_act w Continue at parts = continuing at
    judged_act w Nothing at parts = goes Never
    judged_act w Name at parts = judged_name (here.link at) at
    judged_act w Invoke at (more name arguments) =
        judged_invoked w (here.link (at_of name)) (at_of name) arguments (judged_values arguments)
    judged_act w Notify at (more o (more a none)) = do
      may ← judged_notified (action (operator_of o)) (at_of o)
      k ← judged_value a
      _ ← ruled (notice_kind (place o) may)
      _ ← ruled (integer_kind (place a) k)
      pays 1 Never
    judged_act w (Pause f) at (more a none) = do
      k ← judged_value a
      _ ← ruled (integer_kind (place a) k)
      pays 1 Never
    judged_act w Acquire at (more o (more timeout none)) = do
      m ← judged_mutex at (action (operator_of o)) (at_of o)
      _ ← judged_taken at m
      goes (Always (IntUpTo 0))
    judged_act w Release at (more o none) = do
      m ← judged_mutex at (action (operator_of o)) (at_of o)
      _ ← judged_released at m
      goes Never
    judged_act w other at parts = stops cause.OutsideProfile at

    -- a target, whose own operands come first; an Index is written behind its index
    pub judged_store : Tree → Kind → Rule (Unit {0})
    judged_store (Node o at stop parts) k = judged_stored (action o) at parts k

    pub judged_stored : Action → ℕ → Trees → Kind → Rule (Unit {0})
    judged_stored Index at (more x (more i (more g none))) k = do
      from ← judged_indexed at (action (operator_of g)) x
      j ← judged_value i
      _ ← ruled (byte_written_kind (place_at at) (place_at from) (held_kind (here.link from))
          (place i) j k)
      pays 1 tt
    judged_stored other at parts k = judged_put other at k

    -- what DerefOf reads: an Index, and nothing else (own)
    pub judged_dereferenced : ℕ → Tree → Rule Yield
    judged_dereferenced at (Node o from stop parts) = judged_led (action o) at from parts

    pub judged_led : Action → ℕ → ℕ → Trees → Rule Yield
    judged_led Index at from (more a (more i (more g none))) = do
      _ ← step
      _ ← judged_untargeted from (action (operator_of g))
      j ← judged_value a
      k ← judged_value i
      v ← ruled (led_kind (place_at from) (place a) j (place i) k (number_of i))
      goes (Always v)
    judged_led what at from parts = stops cause.OutsideProfile at

    pub judged_values : Trees → Rule (List Kind)
    judged_values none = goes []
    judged_values (more t ts) = do
      k ← judged_value t
      ks ← judged_values ts
      goes (k ∷ ks)

    pub judged_all : Trees → Rule (Unit {0})
    judged_all none = goes tt
    judged_all (more t ts) = do
      _ ← judged t
      judged_all ts

    pub judged_block : Trees → Rule (Unit {0})
    judged_block none = goes tt
    judged_block (more t ts) = if is_else (operator_of t) then goes tt else do
      _ ← judged t
      judged_block ts

    pub judged_otherwise : Trees → Rule (Unit {0})
    judged_otherwise none = goes tt
    judged_otherwise (more (Node o at stop parts) ts) =
        if is_else o then judged_all parts else judged_otherwise ts
