-- What names, targets and operands mean by themselves has what all parts have.
use Rattle.std.proofs.Common.{ℕ, List, [], ◌∷◌, Option, Some, None}
use Rattle.aml_operators.specs.Tree.{Tree, Trees, Node, more}
use Rattle.aml_namespace.specs.declared.link.Link.{Link}
use Rattle.aml_namespace.specs.declared.link.Link.TheVariants as link
use Rattle.aml_objects.specs.declared.object.Object.{Object}
use Rattle.aml_objects.specs.declared.object.Object.TheVariants as object
use Rattle.aml_paths.specs.declared.scope.ObjectId.{ObjectId}
use Rattle.aml_regions.specs.Fields.{layout_of}
use Rattle.aml_regions.specs.declared.field.AnyField.{AnyField}
use Rattle.aml_values.specs.Values.{Value}
use Rattle.aml_meaning.specs.declared.error.AmlCause.{AmlCause}
use Rattle.aml_meaning.specs.declared.error.AmlCause.TheVariants as why
use Rattle.aml_meaning.specs.declared.action.Action.{Action}
use Rattle.aml_meaning.specs.declared.action.Action.TheVariants.{Local, Argument, Name, Dereference, Invoke, NoTarget, Debug}
use Rattle.aml_meaning.specs.declared.mutex.TakenMutex.{TakenMutex}
use Rattle.aml_meaning.specs.declared.buffer_field.BufferField.{BufferField}
use Rattle.aml_meaning.specs.State.{error}
use Rattle.aml_meaning.specs.Parts.{M, tick}
use Rattle.aml_meaning.specs.Rules.{Place, integer}
use Rattle.aml_meaning.specs.Actions.{action}
use Rattle.aml_meaning.specs.BufferFields.{read_buffer_field, usable_buffer_field, wanted_buffer_field, written_buffer_field}
use Rattle.aml_meaning.specs.Buffers.{size_of}
use Rattle.aml_meaning.specs.FieldValues.{given_bits, wanted_field}
use Rattle.aml_meaning.specs.Interfaces.{answered}
use Rattle.aml_meaning.specs.Meaning.{Setting, at_of, place_at, outside, yields, want, data_unless, tested, held, field_read, bits_stored, field_stored, buffer_field_read, buffer_field_changed, own_read, own_held, own_changed, own_stored, own_measured, own_seen, interface_asked, named, named_target, named_seen, seen, measured, size, asked, condition, untargeted, put, refused, changed_in_place, bound, name_indexed, indexed, notified_name, notified, mutex_numbered, mutex_named, mutex}
use Rattle.aml_steady.proofs.Closed.{Closed, has_lift, has_stepped_out}
use Rattle.aml_steady.proofs.Fields.{has_read_value, has_write_bits}

module _ (Has : (V : Type 0) → M V → Type 0) (is : Closed Has) (here : Setting) where
  pub has_outside : (V : Type 0) (at : ℕ) → Has _ (outside here {V = V} at)
  has_outside V at = is.stops V (error why.Outside here.table at)

  -- a step, and then no meaning
  pub has_stepped_outside : (V : Type 0) (at : ℕ) → Has _ (refused here {V = V} why.Outside at)
  has_stepped_outside V at = has_stepped_out Has is V (error why.Outside here.table at)

  pub has_refused : (V : Type 0) (cause : AmlCause) (at : ℕ) → Has _ (refused here {V = V} cause at)
  has_refused V cause at = has_stepped_out Has is V (error cause here.table at)

  pub has_yields : (v : Value) → Has _ (yields here v)
  has_yields v = is.gives (Some v)

  pub has_want : (at : ℕ) (v : Option Value) → Has _ (want here at v)
  has_want at (Some v) = is.gives v
  has_want at None = is.stops Value (error why.NoValue here.table at)

  pub has_data_unless : (from : Option ℕ) (v : Value) → Has _ (data_unless here from v)
  has_data_unless None v = is.wanting (yields here v) _ (has_yields v)
  has_data_unless (Some from) v = has_outside (Option Value) from

  pub has_tested : (p : Place) (test : M Value) → Has _ test → Has _ (tested here p test)
  has_tested p test h = is.joined test _ h (λ v. has_lift Has is (integer p v))

  pub has_held : (k at : ℕ) → Has _ (held here k at)
  has_held k at = is.joined _ _ (is.reads_name here.table at k) (λ v. has_yields v)

  -- fields of regions
  pub has_field_read : (k at : ℕ) → Has _ (field_read here k at)
  has_field_read k at =
      is.joined _ _ (has_lift Has is (wanted_field (place_at here at) (here.field k)))
      (λ f. is.joined _ _ (has_read_value Has is here.width f) (λ v. has_yields v))

  pub has_bits_stored : (at : ℕ) (f : AnyField) (v : Value) → Has _ (bits_stored here at f v)
  has_bits_stored at f v =
      is.joined _ _ (has_lift Has is (given_bits here.width (place_at here at) (layout_of f).bits v)) (λ bit. has_write_bits Has is f bit)

  pub has_field_stored : (k at : ℕ) (v : Value) → Has _ (field_stored here k at v)
  has_field_stored k at v =
      is.joined tick _ is.ticks
      (λ u. is.joined _ _ (has_lift Has is (wanted_field (place_at here at) (here.field k))) (λ f. has_bits_stored at f v))

  -- fields of buffers
  pub has_buffer_field_read : (field : Option BufferField) (at : ℕ) → Has _ (buffer_field_read here field at)
  has_buffer_field_read field at =
      is.joined _ _ (has_lift Has is (wanted_buffer_field (place_at here at) field))
      (λ f. is.joined _ _ (is.peeks f.source (read_buffer_field here.width (place_at here at) f)) (λ v. has_yields v))

  pub has_buffer_field_changed : (at : ℕ) (field : Option BufferField) (v : Value) → Has _ (buffer_field_changed here at field v)
  has_buffer_field_changed at (Some f) v = is.changes f.source (written_buffer_field here.width (place_at here at) f v)
  has_buffer_field_changed at None v = has_refused (Unit {0}) why.Region at

  -- own names
  pub has_own_read : (field : Option BufferField) (k at : ℕ) → Has _ (own_read here field k at)
  has_own_read (Some f) k at = has_buffer_field_read (usable_buffer_field f) at
  has_own_read None k at = is.joined _ _ (is.reads_own here.table at k) (λ v. has_yields v)

  pub has_own_held : (k at : ℕ) → Has _ (own_held here k at)
  has_own_held k at = is.joined _ _ (is.reads_own_field k) (λ f. has_own_read f k at)

  pub has_own_changed : (field : Option BufferField) (k at : ℕ) (v : Value) → Has _ (own_changed here field k at v)
  has_own_changed (Some f) k at v = has_buffer_field_changed at (usable_buffer_field f) v
  has_own_changed None k at v = is.writes_own here.table at k v

  pub has_own_stored : (k at : ℕ) (v : Value) → Has _ (own_stored here k at v)
  has_own_stored k at v = is.joined _ _ (is.reads_own_field k) (λ f. has_own_changed f k at v)

  pub has_own_measured : (field : Option BufferField) (k at : ℕ) → Has _ (own_measured here field k at)
  has_own_measured (Some f) k at = is.stops Value (error why.Kind here.table at)
  has_own_measured None k at = is.reads_own here.table at k

  pub has_own_seen : (k at : ℕ) → Has _ (own_seen here k at)
  has_own_seen k at = is.joined _ _ (is.reads_own_field k) (λ f. has_own_measured f k at)

  pub has_interface_asked : (at from : ℕ) (vs : List Value) → Has _ (interface_asked here at from vs)
  has_interface_asked at from [] = has_outside (Option Value) at
  has_interface_asked at from (v ∷ []) =
      is.joined _ _ (has_lift Has is (answered here.is_interface here.width (place_at here from) v)) (λ said. has_yields said)
  has_interface_asked at from (v ∷ u ∷ vs) = has_outside (Option Value) at

  -- names that are read, stored into and measured
  pub has_named : (l : Link) (at : ℕ) → Has _ (named here l at)
  has_named (link.Data id) at = has_held id.0 at
  has_named (link.Field id) at = has_field_read id.0 at
  has_named (link.BufferField id) at = has_buffer_field_read (here.buffer_field id.0) at
  has_named (link.Own k) at = has_own_held k at
  has_named (link.Method id) at = is.stops (Option Value) _
  has_named link.OsInterfaces at = is.stops (Option Value) _
  has_named (link.Object id) at = is.stops (Option Value) _
  has_named link.Missing at = is.stops (Option Value) _

  pub has_named_target : (l : Link) (at : ℕ) (v : Value) → Has _ (named_target here l at v)
  has_named_target (link.Data id) at v = is.writes_name here.table at id.0 v
  has_named_target (link.Field id) at v = has_field_stored id.0 at v
  has_named_target (link.BufferField id) at v = has_buffer_field_changed at (here.buffer_field id.0) v
  has_named_target (link.Own k) at v = has_own_stored k at v
  has_named_target (link.Method id) at v = has_stepped_out Has is (Unit {0}) _
  has_named_target link.OsInterfaces at v = has_stepped_out Has is (Unit {0}) _
  has_named_target (link.Object id) at v = has_stepped_out Has is (Unit {0}) _
  has_named_target link.Missing at v = has_stepped_out Has is (Unit {0}) _

  pub has_named_seen : (l : Link) (at : ℕ) → Has _ (named_seen here l at)
  has_named_seen (link.Data id) at = is.reads_name here.table at id.0
  has_named_seen (link.Own k) at = has_own_seen k at
  has_named_seen (link.Field id) at = is.stops Value _
  has_named_seen (link.BufferField id) at = is.stops Value _
  has_named_seen (link.Method id) at = is.stops Value _
  has_named_seen link.OsInterfaces at = is.stops Value _
  has_named_seen (link.Object id) at = is.stops Value _
  has_named_seen link.Missing at = is.stops Value _

  pub has_seen : (a : Action) (at : ℕ) → Has _ (seen here a at)
  has_seen (Local k) at = is.reads_local here.table at k
  has_seen (Argument k) at = is.reads_arg here.table at k
  has_seen Name at = has_named_seen (here.link at) at
  has_seen a at = has_stepped_outside Value at

  pub has_measured : (a : Action) (at : ℕ) → Has _ (measured here a at)
  has_measured a at = is.joined (seen here a at) _ (has_seen a at) (λ x. has_lift Has is (size_of here.width (place_at here at) x))

  pub has_size : (t : Tree) → Has _ (size here t)
  has_size (Node op at stop parts) = has_measured (action op) at

  pub has_asked : (what into : Action) (at from : ℕ) → Has _ (asked here what into at from)
  has_asked Name NoTarget at from = is.gives _
  has_asked what into at from = has_outside (Option Value) at

  pub has_condition : (at : ℕ) (a target : Tree) → Has _ (condition here at a target)
  has_condition at (Node op from stop parts) (Node target behind end others) = has_asked (action op) (action target) at from

  -- targets
  pub has_untargeted : (at : ℕ) (a : Action) → Has _ (untargeted here at a)
  has_untargeted at NoTarget = is.gives tt
  has_untargeted at a = has_outside (Unit {0}) at

  pub has_put : (a : Action) (at : ℕ) (v : Value) → Has _ (put here a at v)
  has_put NoTarget at v = is.gives tt
  has_put (Local k) at v = is.joined tick _ is.ticks (λ u. is.writes_local k v)
  has_put (Argument k) at v = is.joined tick _ is.ticks (λ u. is.writes_arg k v)
  has_put Debug at v = is.ticks
  has_put Name at v = has_named_target (here.link at) at v
  has_put a at v = has_stepped_outside (Unit {0}) at

  pub has_changed_in_place : (a : Action) (at : ℕ) → Has _ (changed_in_place here a at)
  has_changed_in_place Dereference at = has_refused (Unit {0}) why.Outside at
  has_changed_in_place a at = is.gives tt

  pub has_bound : (l : Link) (at : ℕ) → Has _ (bound here l at)
  has_bound link.Missing at = has_refused ℕ why.Missing at
  has_bound (link.Object id) at = is.gives at
  has_bound (link.Data id) at = is.gives at
  has_bound (link.Field id) at = is.gives at
  has_bound (link.BufferField id) at = is.gives at
  has_bound (link.Own k) at = is.gives at
  has_bound (link.Method id) at = is.gives at
  has_bound link.OsInterfaces at = is.gives at

  pub has_name_indexed : (at : ℕ) (a : Action) (from : ℕ) (parts : Trees) → Has _ (name_indexed here at a from parts)
  has_name_indexed at Name from parts = has_bound (here.link from) from
  has_name_indexed at Invoke from (more name arguments) = has_bound (here.link (at_of name)) (at_of name)
  has_name_indexed at a from parts = has_refused ℕ why.Outside at

  pub has_indexed : (at : ℕ) (into : Action) (x : Tree) → Has _ (indexed here at into x)
  has_indexed at NoTarget (Node op from stop parts) = has_name_indexed at (action op) from parts
  has_indexed at into x = has_refused ℕ why.Outside at

  -- objects that are notified, and mutexes
  pub has_notified_name : (l : Link) (at : ℕ) → Has _ (notified_name here l at)
  has_notified_name link.Missing at = is.stops (Option ObjectId) _
  has_notified_name (link.Object id) at = is.gives _
  has_notified_name (link.Data id) at = is.gives _
  has_notified_name (link.Field id) at = is.gives _
  has_notified_name (link.BufferField id) at = is.gives _
  has_notified_name (link.Own k) at = is.gives _
  has_notified_name (link.Method id) at = is.gives _
  has_notified_name link.OsInterfaces at = is.gives _

  pub has_notified : (a : Action) (at : ℕ) → Has _ (notified here a at)
  has_notified Name at = has_notified_name (here.link at) at
  has_notified (Local k) at = is.gives _
  has_notified (Argument k) at = is.gives _
  has_notified a at = has_stepped_outside (Option ObjectId) at

  pub has_mutex_numbered : (at from k : ℕ) (o : Option Object) → Has _ (mutex_numbered here at from k o)
  has_mutex_numbered at from k (Some (object.Mutex level)) = is.gives _
  has_mutex_numbered at from k (Some object.GlobalLock) = has_outside TakenMutex at
  has_mutex_numbered at from k o = is.stops TakenMutex (error why.Kind here.table from)

  pub has_mutex_named : (at from : ℕ) (l : Link) → Has _ (mutex_named here at from l)
  has_mutex_named at from link.Missing = is.stops TakenMutex (error why.Missing here.table from)
  has_mutex_named at from (link.Object id) = has_mutex_numbered at from id.0 (here.object id.0)
  has_mutex_named at from l = is.stops TakenMutex (error why.Kind here.table from)

  pub has_mutex : (at : ℕ) (a : Action) (from : ℕ) → Has _ (mutex here at a from)
  has_mutex at Name from = has_mutex_named at from (here.link from)
  has_mutex at (Local k) from = is.stops TakenMutex (error why.Kind here.table from)
  has_mutex at (Argument k) from = is.stops TakenMutex (error why.Kind here.table from)
  has_mutex at a from = has_stepped_outside TakenMutex from
