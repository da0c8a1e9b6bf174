-- Terms, stores and lists of statements have what all parts have, where calls do.
use Rattle.std.proofs.Common.{ℕ, List, Option}
use Rattle.std.specs.Prelude.{◌==◌, if◌then◌else◌}
use Rattle.aml_operators.specs.Shape.{operator_of}
use Rattle.aml_operators.specs.Tree.{Tree, Trees, Node, none, more}
use Rattle.aml_namespace.specs.declared.link.Link.{Link}
use Rattle.aml_namespace.specs.declared.link.Link.TheVariants as link
use Rattle.aml_values.specs.Values.{Value, Int}
use Rattle.aml_contents.specs.BodyData.{computed_size}
use Rattle.aml_regions.specs.Events.{Notified}
use Rattle.aml_meaning.specs.declared.action.Action.{Action}
use Rattle.aml_meaning.specs.declared.action.Action.TheVariants.{Literal, Data, Local, Argument, Name, Binary, Unary, ByOne, Compare, LNot, Divide, Convert, Concatenate, SizeOf, Dereference, Index, CondRefOf, Store, Return, If, While, Break, Continue, Nothing, Invoke, Notify, Pause, Acquire, Release}
use Rattle.aml_meaning.specs.State.{Returned, Broke, Continued}
use Rattle.aml_meaning.specs.Parts.{M, ◌>>=◌, give, lift, tick}
use Rattle.aml_meaning.specs.Actions.{action}
use Rattle.aml_meaning.specs.Buffers.{concatenated}
use Rattle.aml_meaning.specs.Conversions.{converted}
use Rattle.aml_meaning.specs.Elements.{byte_written, element_at}
use Rattle.aml_meaning.specs.Notices.{notice}
use Rattle.aml_meaning.specs.Rules.{integer, combined, transformed, compared, negated, divided}
use Rattle.aml_meaning.specs.Meaning.{Setting, at_of, is_else, place, place_at, outside, tested, invoked, operator_action, gives_value, mean, value, act, given, store, stored, dereferenced, led, yields, values, mean_all, block, otherwise}
use Rattle.aml_steady.proofs.Closed.{CallsHave, Closed, has_choice, has_lift, has_paused}
use Rattle.aml_steady.proofs.Loops.{has_loop}
use Rattle.aml_steady.proofs.Names.{has_outside, has_yields, has_want, has_data_unless, has_tested, has_held, has_field_read, has_buffer_field_read, has_own_held, has_interface_asked, has_named, has_size, has_condition, has_untargeted, has_put, has_changed_in_place, has_indexed, has_notified, has_mutex}

module _ (Has : (V : Type 0) → M V → Type 0) (is : Closed Has) (here : Setting) (calls : CallsHave Has here.call) where
  pub has_invoked : (l : Link) (at from : ℕ) (arguments : M (List Value)) → Has _ arguments → Has _ (invoked here l at from arguments)
  has_invoked (link.Method id) at from arguments h = is.joined arguments _ h (λ vs. calls (place_at here at) id.0 vs)
  has_invoked link.OsInterfaces at from arguments h = is.joined arguments _ h (λ vs. has_interface_asked Has is here at from vs)
  has_invoked (link.Data id) at from arguments h = has_held Has is here id.0 at
  has_invoked (link.Field id) at from arguments h = has_field_read Has is here id.0 at
  has_invoked (link.BufferField id) at from arguments h = has_buffer_field_read Has is here (here.buffer_field id.0) at
  has_invoked (link.Own k) at from arguments h = has_own_held Has is here k at
  has_invoked (link.Object id) at from arguments h = is.stops (Option Value) _
  has_invoked link.Missing at from arguments h = is.stops (Option Value) _

  mutual
    pub has_mean : (t : Tree) → Has _ (mean here t)
    has_mean (Node op at stop parts) = is.joined tick _ is.ticks (λ u. has_act (action op) at parts)

    pub has_value : (t : Tree) → Has _ (value here t)
    has_value (Node op at stop parts) =
        is.joined tick _ is.ticks
        (λ u. is.joined (if gives_value here (action op) parts then act here (action op) at parts else outside here at) _
        (has_choice Has is (gives_value here (action op) parts) (act here (action op) at parts) (outside here at) (has_act (action op) at parts) (has_outside Has is here (Option Value) at))
        (λ v. has_want Has is here at v))

    pub has_act : (a : Action) (at : ℕ) (parts : Trees) → Has _ (act here a at parts)
    has_act (Literal op) at parts = is.gives _
    has_act (Data op) at parts = has_data_unless Has is here (computed_size op at parts) (here.literal op parts)
    has_act (Local k) at parts = is.joined _ _ (is.reads_local here.table at k) (λ v. has_yields Has is here v)
    has_act (Argument k) at parts = is.joined _ _ (is.reads_arg here.table at k) (λ v. has_yields Has is here v)
    has_act (Binary f) at (more a (more b (more g none))) =
        is.joined (value here a) _ (has_value a) (λ x. is.joined (value here b) _ (has_value b)
        (λ y. is.joined _ _ (has_lift Has is (combined here.width f (place here a) x (place here b) y))
        (λ v. is.joined (store here g v) _ (has_store g v) (λ u. has_yields Has is here v))))
    has_act (Unary f) at (more a (more g none)) =
        is.joined (value here a) _ (has_value a)
        (λ x. is.joined _ _ (has_lift Has is (transformed here.width f (place here a) x))
        (λ v. is.joined (store here g v) _ (has_store g v) (λ u. has_yields Has is here v)))
    has_act (ByOne f) at (more a none) =
        is.joined _ _ (has_changed_in_place Has is here (operator_action here a) (at_of a))
        (λ u. is.joined (value here a) _ (has_value a)
        (λ x. is.joined _ _ (has_lift Has is (combined here.width f (place here a) x (place here a) (Int 1)))
        (λ v. is.joined (store here a v) _ (has_store a v) (λ w. has_yields Has is here v))))
    has_act (Compare f) at (more a (more b none)) =
        is.joined (value here a) _ (has_value a) (λ x. is.joined (value here b) _ (has_value b)
        (λ y. is.joined _ _ (has_lift Has is (compared here.width f (place here a) x (place here b) y)) (λ v. has_yields Has is here v)))
    has_act LNot at (more a none) =
        is.joined (value here a) _ (has_value a)
        (λ x. is.joined _ _ (has_lift Has is (negated here.width (place here a) x)) (λ v. has_yields Has is here v))
    has_act Divide at (more a (more b (more r (more q none)))) =
        is.joined (value here a) _ (has_value a) (λ x. is.joined (value here b) _ (has_value b)
        (λ y. is.joined _ _ (has_lift Has is (divided (place here a) x (place here b) y))
        (λ d. is.joined (store here r d.remainder) _ (has_store r d.remainder)
        (λ u. is.joined (store here q d.quotient) _ (has_store q d.quotient) (λ w. has_yields Has is here d.quotient)))))
    has_act (Convert f) at (more a (more g none)) =
        is.joined (value here a) _ (has_value a)
        (λ x. is.joined _ _ (is.wanting (lift (converted here.width f (place_at here at) (place here a) x)) _ (has_lift Has is (converted here.width f (place_at here at) (place here a) x)))
        (λ v. is.wanting (store here g v >>= (λ u. yields here v)) _ (is.joined (store here g v) _ (has_store g v) (λ u. has_yields Has is here v))))
    has_act Concatenate at (more a (more b (more g none))) =
        is.joined (value here a) _ (has_value a) (λ x. is.joined (value here b) _ (has_value b)
        (λ y. is.joined _ _ (is.wanting (lift (concatenated (place_at here at) (place here a) x (place here b) y)) _ (has_lift Has is (concatenated (place_at here at) (place here a) x (place here b) y)))
        (λ v. is.wanting (store here g v >>= (λ u. yields here v)) _ (is.joined (store here g v) _ (has_store g v) (λ u. has_yields Has is here v)))))
    has_act SizeOf at (more a none) = is.joined _ _ (has_size Has is here a) (λ v. has_yields Has is here v)
    has_act Dereference at (more a none) = is.wanting (dereferenced here at a) _ (has_dereferenced at a)
    has_act CondRefOf at (more a (more g none)) = has_condition Has is here at a g
    has_act Store at (more a (more g none)) =
        is.joined (value here a) _ (has_value a) (λ v. is.wanting (store here g v >>= (λ u. yields here v)) _ (is.joined (store here g v) _ (has_store g v) (λ u. has_yields Has is here v)))
    has_act Return at (more a none) =
        is.joined (value here a) _ (has_value a)
        (λ v. is.joined _ _ (is.holds_none here.table at) (λ u. is.stops (Option Value) (Returned v)))
    has_act If at (more t body) =
        is.joined _ _ (has_tested Has is here (place here t) (value here t) (has_value t))
        (λ x. is.joined (if x == 0 then otherwise here body else block here body) _
        (has_choice Has is (x == 0) (otherwise here body) (block here body) (has_otherwise body) (has_block body)) (λ u. is.gives _))
    has_act While at (more t body) =
        is.joined _ _ (has_loop Has is (tested here (place here t) (value here t)) (mean_all here body) (has_tested Has is here (place here t) (value here t) (has_value t)) (has_mean_all body))
        (λ u. is.gives _)
    has_act Break at parts = is.stops (Option Value) (Broke at)
    has_act Continue at parts = is.stops (Option Value) (Continued at)
    has_act Nothing at parts = is.gives _
    has_act Name at parts = has_named Has is here (here.link at) at
    has_act Invoke at (more name arguments) = has_invoked (here.link (at_of name)) (at_of name) _ (values here arguments) (has_values arguments)
    has_act Notify at (more o (more a none)) =
        is.joined _ _ (has_notified Has is here (action (operator_of o)) (at_of o)) (λ object. is.joined (value here a) _ (has_value a)
        (λ v. is.joined _ _ (has_lift Has is (notice (place here o) object)) (λ id. is.joined _ _ (has_lift Has is (integer (place here a) v))
        (λ n. is.joined _ _ (is.makes_event (Notified id n)) (λ u. is.gives _)))))
    has_act (Pause f) at (more a none) =
        is.joined (value here a) _ (has_value a)
        (λ v. is.joined _ _ (has_lift Has is (integer (place here a) v)) (λ n. is.joined _ _ (has_paused Has is f n) (λ u. is.gives _)))
    has_act Acquire at (more o (more timeout none)) =
        is.joined _ _ (has_mutex Has is here at (action (operator_of o)) (at_of o))
        (λ m. is.joined _ _ (is.acquires here.table at m) (λ u. is.gives _))
    has_act Release at (more o none) =
        is.joined _ _ (has_mutex Has is here at (action (operator_of o)) (at_of o))
        (λ m. is.joined _ _ (is.releases here.table at m) (λ u. is.gives _))
    has_act a at parts = has_outside Has is here (Option Value) at

    pub has_store : (g : Tree) (v : Value) → Has _ (store here g v)
    has_store (Node op at stop parts) v = has_stored (action op) at parts v

    pub has_stored : (a : Action) (at : ℕ) (parts : Trees) (v : Value) → Has _ (stored here a at parts v)
    has_stored Index at (more x (more i (more g none))) v =
        is.joined _ _ (has_indexed Has is here at (operator_action here g) x) (λ from. is.joined (value here i) _ (has_value i)
        (λ n. is.changes (here.link from) (byte_written (place_at here at) (place_at here from) (place here i) n v)))
    has_stored a at parts v = has_put Has is here a at v

    pub has_dereferenced : (at : ℕ) (t : Tree) → Has _ (dereferenced here at t)
    has_dereferenced at (Node op from stop parts) = has_led (action op) at from parts

    pub has_led : (what : Action) (at from : ℕ) (parts : Trees) → Has _ (led here what at from parts)
    has_led Index at from (more a (more i (more g none))) =
        is.joined tick _ is.ticks (λ u. is.joined _ _ (has_untargeted Has is here from (operator_action here g))
        (λ w. is.joined (value here a) _ (has_value a) (λ x. is.joined (value here i) _ (has_value i)
        (λ n. is.joined _ _ (is.wanting (lift (element_at (place_at here from) (place here a) x (place here i) n)) _ (has_lift Has is (element_at (place_at here from) (place here a) x (place here i) n))) (λ v. has_yields Has is here v)))))
    has_led what at from parts = has_outside Has is here (Option Value) at

    pub has_values : (ts : Trees) → Has _ (values here ts)
    has_values none = is.gives _
    has_values (more t ts) = is.joined (value here t) _ (has_value t) (λ v. is.joined (values here ts) _ (has_values ts) (λ vs. is.gives _))

    pub has_mean_all : (ts : Trees) → Has _ (mean_all here ts)
    has_mean_all none = is.gives tt
    has_mean_all (more t ts) = is.joined (mean here t) _ (has_mean t) (λ v. has_mean_all ts)

    pub has_block : (ts : Trees) → Has _ (block here ts)
    has_block none = is.gives tt
    has_block (more t ts) =
        has_choice Has is (is_else (operator_of t)) (give tt) (mean here t >>= (λ v. block here ts)) (is.gives tt)
        (is.joined (mean here t) _ (has_mean t) (λ v. has_block ts))

    pub has_otherwise : (ts : Trees) → Has _ (otherwise here ts)
    has_otherwise none = is.gives tt
    has_otherwise (more (Node op at stop parts) ts) =
        has_choice Has is (is_else op) (mean_all here parts) (otherwise here ts) (has_mean_all parts) (has_otherwise ts)

  pub has_given : (a : Action) (at : ℕ) (parts : Trees) → Has _ (given here a at parts)
  has_given a at parts =
      has_choice Has is (gives_value here a parts) (act here a at parts) (outside here at) (has_act a at parts) (has_outside Has is here (Option Value) at)
