-- What an evaluation is made of keeps the kinds of names, so all evaluations do.
use Rattle.std.proofs.Common.{◌≡◌, ℕ, zero, suc, List, [], ◌∷◌, Option, Some, None, Result, Ok, Err, refl, ◌∙◌}
use Rattle.std.specs.Prelude.{Bool, true, false, ◌==◌, cond, slice_get, length, nat_le}
use Rattle.aml_values.specs.Values.{Value}
use Rattle.aml_contents.specs.Contents.{Contents, ContentKinds, content_at}
use Rattle.aml_namespace.specs.declared.link.Link.{Link}
use Rattle.aml_namespace.specs.declared.link.Link.TheVariants as link
use Rattle.aml_regions.specs.declared.access.Access.{Access}
use Rattle.aml_regions.specs.Events.{Event, Read, Written, Notified, Slept, Stalled, same_access}
use Rattle.aml_meaning.specs.declared.error.AmlError.{AmlError}
use Rattle.aml_meaning.specs.declared.mutex.TakenMutex.{TakenMutex}
use Rattle.aml_meaning.specs.declared.buffer_field.BufferField.{BufferField}
use Rattle.aml_meaning.specs.State.{Frame, Returned, Broke, Continued, State, Stop, Error, Out, Goes, Halts, NoAnswer, Spent, held_level, state_of, with_steps}
use Rattle.aml_meaning.specs.Parts.{M, Effect, ◌>>=◌, give, stop_with, tick, paid, take_step, then_do, content_or, get_local, get_arg, get_name, set_local, set_arg, set_name, may_store, stored_or, read_unit, answer, make_event, with_event, sleep, woken, woken_or}
use Rattle.aml_meaning.specs.Owns.{get_own, set_own, own_stored_or, make_own, own_field}
use Rattle.aml_meaning.specs.Changes.{change, changed_or, held_by, holding, peek, peeked_or}
use Rattle.aml_meaning.specs.Mutexes.{acquire, acquired_or, if_watched, release, released_or, none_held, ended_or, without_last}
use Rattle.aml_meaning.specs.Calls.{framed, inside, left}
use Rattle.aml_meaning.specs.Loops.{loop, spent, turn_end, turned, turns}
use Rattle.aml_steady.specs.Steady.{KeepsKinds, BodiesKeepKinds, CallsWithinKeepKinds, FramesKeepKinds, ListsKeepKinds, MethodsKeepKinds, StatementsKeepKinds, StoresKeepKinds, TermsKeepKinds, ValuesKeepKinds}
use Rattle.aml_steady.proofs.Closed.{Closed}
use Rattle.aml_steady.proofs.Methods.{has_call_within, has_mean_body, has_mean_method, has_statement}
use Rattle.aml_steady.proofs.Terms.{has_mean, has_mean_all, has_store, has_value, has_values}

-- of an outcome: these kinds are as some were
abbrev pub HasKinds : {V : Type 0} → ContentKinds → Out V → Type 0
HasKinds kinds o = (state_of o).names.kinds ≡ kinds

-- one part, and what follows it
then_has : {V W : Type 0} (kinds : ContentKinds) (o : Out V) (f : V → State → Out W) → HasKinds kinds o → ((v : V) (next : State) → HasKinds next.names.kinds (f v next)) → HasKinds kinds (then_do o f)
then_has kinds (Goes v next) f h g = g v next ∙ h
then_has kinds (Halts stop next) f h g = h
then_has kinds (NoAnswer next) f h g = h
then_has kinds (Spent next) f h g = h

keeps_then : {V W : Type 0} (m : M V) (f : V → M W) → KeepsKinds m → ((v : V) → KeepsKinds (f v)) → KeepsKinds (m >>= f)
unfolding ◌>>=◌
keeps_then m f h g script s = then_has s.names.kinds (m.run script s) _ (h script s) (λ v next. g v script next)

keeps_give : {V : Type 0} (v : V) → KeepsKinds (give v)
unfolding give
keeps_give v script s = refl

keeps_stop_with : (V : Type 0) (stop : Stop) → KeepsKinds (stop_with {V = V} stop)
unfolding stop_with
keeps_stop_with V stop script s = refl

-- a step, and what it pays for
step_has : {V : Type 0} (n : ℕ) (s : State) (f : State → Out V) → ((k : ℕ) → HasKinds s.names.kinds (f (with_steps s k))) → HasKinds s.names.kinds (take_step n s f)
step_has zero s f h = refl
step_has (suc n) s f h = h n

keeps_paid : {V : Type 0} (effect : Effect V) → ((script : List Event) (s : State) → HasKinds s.names.kinds (effect.run script s)) → KeepsKinds (paid effect)
unfolding paid
keeps_paid effect h script s = step_has s.steps s (effect.run script) (λ k. h script (with_steps s k))

keeps_tick : KeepsKinds tick
unfolding tick
keeps_tick = keeps_paid _ (λ script s. refl)

-- locals, arguments and data names
content_has : (table at : ℕ) (slot : Option (Option Value)) (s : State) → HasKinds s.names.kinds (content_or table at slot s)
content_has table at (Some (Some v)) s = refl
content_has table at (Some None) s = refl
content_has table at None s = refl

keeps_get_local : (table at k : ℕ) → KeepsKinds (get_local table at k)
unfolding get_local
keeps_get_local table at k script s = content_has table at (slice_get s.frame.locals k) s

keeps_get_arg : (table at k : ℕ) → KeepsKinds (get_arg table at k)
unfolding get_arg
keeps_get_arg table at k script s = content_has table at (slice_get s.frame.args k) s

keeps_get_name : (table at k : ℕ) → KeepsKinds (get_name table at k)
unfolding get_name
keeps_get_name table at k script s = content_has table at (Some (content_at s.names.contents k)) s

keeps_set_local : (k : ℕ) (v : Value) → KeepsKinds (set_local k v)
unfolding set_local
keeps_set_local k v script s = refl

keeps_set_arg : (k : ℕ) (v : Value) → KeepsKinds (set_arg k v)
unfolding set_arg
keeps_set_arg k v script s = refl

stored_has : (may : Bool) (table at k : ℕ) (v : Value) (s : State) → HasKinds s.names.kinds (stored_or may table at k v s)
stored_has true table at k v s = refl
stored_has false table at k v s = refl

keeps_set_name : (table at k : ℕ) (v : Value) → KeepsKinds (set_name table at k v)
unfolding set_name
keeps_set_name table at k v = keeps_paid _ (λ script s. stored_has (may_store s.names.kinds k v) table at k v s)

-- events
found_has : (b : Bool) (access : Access) (v : ℕ) (s : State) → HasKinds s.names.kinds (cond b (Goes v (with_event s (Read access v))) (NoAnswer s))
found_has true access v s = refl
found_has false access v s = refl

answer_has : (access : Access) (event : Option Event) (s : State) → HasKinds s.names.kinds (answer access event s)
answer_has access (Some (Read other v)) s = found_has (same_access access other) access v s
answer_has access (Some (Written other v)) s = refl
answer_has access (Some (Notified object v)) s = refl
answer_has access (Some (Slept v left)) s = refl
answer_has access (Some (Stalled v)) s = refl
answer_has access None s = refl

keeps_read_unit : (access : Access) → KeepsKinds (read_unit access)
unfolding read_unit
keeps_read_unit access = keeps_paid _ (λ script s. answer_has access (slice_get script (length s.log)) s)

keeps_make_event : (event : Event) → KeepsKinds (make_event event)
unfolding make_event
keeps_make_event event = keeps_paid _ (λ script s. refl)

-- a Sleep leaves other contents, of the same kinds
awake_has : (b : Bool) (n : ℕ) (left : Option Contents) (s : State) → HasKinds s.names.kinds (woken_or b n left s)
awake_has true n left s = refl
awake_has false n left s = refl

woken_has : (n : ℕ) (event : Option Event) (s : State) → HasKinds s.names.kinds (woken n event s)
woken_has n (Some (Read access v)) s = refl
woken_has n (Some (Written access v)) s = refl
woken_has n (Some (Notified object v)) s = refl
woken_has n (Some (Slept m left)) s = awake_has (n == m) n left s
woken_has n (Some (Stalled v)) s = refl
woken_has n None s = refl

keeps_sleep : (n : ℕ) → KeepsKinds (sleep n)
unfolding sleep
keeps_sleep n = keeps_paid _ (λ script s. woken_has n (slice_get script (length s.log)) s)

-- the names that a method makes itself stand in its frame
keeps_get_own : (table at k : ℕ) → KeepsKinds (get_own table at k)
unfolding get_own
keeps_get_own table at k script s = content_has table at (Some (content_at s.frame.owns.contents k)) s

own_stored_has : (may : Bool) (table at k : ℕ) (v : Value) (s : State) → HasKinds s.names.kinds (own_stored_or may table at k v s)
own_stored_has true table at k v s = refl
own_stored_has false table at k v s = refl

keeps_set_own : (table at k : ℕ) (v : Value) → KeepsKinds (set_own table at k v)
unfolding set_own
keeps_set_own table at k v = keeps_paid _ (λ script s. own_stored_has (may_store s.frame.owns.kinds k v) table at k v s)

keeps_make_own : (width : ℕ) (held : Option Value) (field : Option BufferField) → KeepsKinds (make_own width held field)
unfolding make_own
keeps_make_own width held field script s = refl

keeps_own_field : (k : ℕ) → KeepsKinds (own_field k)
unfolding own_field
keeps_own_field k script s = refl

-- contents that are changed in place
holding_has : (l : Link) (s : State) (v : Value) → (holding l s v).names.kinds ≡ s.names.kinds
holding_has (link.Method id) s v = refl
holding_has link.OsInterfaces s v = refl
holding_has (link.Data id) s v = refl
holding_has (link.Field id) s v = refl
holding_has (link.BufferField id) s v = refl
holding_has (link.Object id) s v = refl
holding_has (link.Own k) s v = refl
holding_has link.Missing s v = refl

changed_has : (l : Link) (s : State) (r : Result Value AmlError) → HasKinds s.names.kinds (changed_or l s r)
changed_has l s (Ok v) = holding_has l s v
changed_has l s (Err e) = refl

keeps_change : (l : Link) (rule : Option Value → Result Value AmlError) → KeepsKinds (change l rule)
unfolding change
keeps_change l rule = keeps_paid _ (λ script s. changed_has l s (rule (held_by l s)))

peeked_has : (s : State) (r : Result Value AmlError) → HasKinds s.names.kinds (peeked_or s r)
peeked_has s (Ok v) = refl
peeked_has s (Err e) = refl

keeps_peek : (l : Link) (rule : Option Value → Result Value AmlError) → KeepsKinds (peek l rule)
unfolding peek
keeps_peek l rule script s = peeked_has s (rule (held_by l s))

-- mutexes
watched_has : (watched : Bool) (s : State) (o : Out (Unit {0})) → HasKinds s.names.kinds o → HasKinds s.names.kinds (if_watched watched s o)
watched_has true s o h = h
watched_has false s o h = refl

acquired_has : (may : Bool) (table at : ℕ) (m : TakenMutex) (s : State) → HasKinds s.names.kinds (acquired_or may table at m s)
acquired_has true table at m s = refl
acquired_has false table at m s = refl

keeps_acquire : (table at : ℕ) (m : TakenMutex) → KeepsKinds (acquire table at m)
unfolding acquire
keeps_acquire table at m script s = watched_has s.frame.watched s _ (acquired_has (nat_le (held_level s.frame) m.level) table at m s)

released_has : (held : Option (List TakenMutex)) (table at : ℕ) (s : State) → HasKinds s.names.kinds (released_or held table at s)
released_has (Some held) table at s = refl
released_has None table at s = refl

keeps_release : (table at : ℕ) (m : TakenMutex) → KeepsKinds (release table at m)
unfolding release
keeps_release table at m script s = watched_has s.frame.watched s _ (released_has (without_last m.object.0 s.frame.held) table at s)

ended_has : (held : List TakenMutex) (table at : ℕ) (s : State) → HasKinds s.names.kinds (ended_or held table at s)
ended_has [] table at s = refl
ended_has (m ∷ ms) table at s = refl

keeps_none_held : (table at : ℕ) → KeepsKinds (none_held table at)
unfolding none_held
keeps_none_held table at script s = watched_has s.frame.watched s _ (ended_has s.frame.held table at s)

-- loops
turn_has : (kinds : ContentKinds) (o : Out (Unit {0})) (rest : State → Out (Unit {0})) → HasKinds kinds o → ((next : State) → HasKinds next.names.kinds (rest next)) → HasKinds kinds (turn_end o rest)
turn_has kinds (Goes v next) rest h g = g next ∙ h
turn_has kinds (Halts (Continued at) next) rest h g = g next ∙ h
turn_has kinds (Halts (Broke at) next) rest h g = h
turn_has kinds (Halts (Error e) next) rest h g = h
turn_has kinds (Halts (Returned v) next) rest h g = h
turn_has kinds (NoAnswer next) rest h g = h
turn_has kinds (Spent next) rest h g = h

keeps_turned : (body rest : M (Unit {0})) → KeepsKinds body → KeepsKinds rest → KeepsKinds (turned body rest)
unfolding turned
keeps_turned body rest h g script s = turn_has s.names.kinds (body.run script s) (rest.run script) (h script s) (λ next. g script next)

keeps_spent : KeepsKinds spent
unfolding spent
keeps_spent script s = refl

keeps_loop : (test : M ℕ) (body : M (Unit {0})) → ((n : ℕ) → KeepsKinds (turns n test body)) → KeepsKinds (loop test body)
unfolding loop
keeps_loop test body h script s = h (suc s.steps) script s

-- however a body ends, the caller's frame stands again, and names are as the body left them
left_has : (kinds : ContentKinds) (table : ℕ) (frame : Frame) (o : Out (Unit {0})) → HasKinds kinds o → HasKinds kinds (left table frame o)
left_has kinds table frame (Goes v s) h = h
left_has kinds table frame (Halts (Returned v) s) h = h
left_has kinds table frame (Halts (Broke at) s) h = h
left_has kinds table frame (Halts (Continued at) s) h = h
left_has kinds table frame (Halts (Error e) s) h = h
left_has kinds table frame (NoAnswer s) h = h
left_has kinds table frame (Spent s) h = h

pub keeps_framed : FramesKeepKinds
unfolding framed
keeps_framed table values body h script s = left_has s.names.kinds table s.frame (body.run script (inside values s)) (h script (inside values s))

kinds : Closed (λ V m. KeepsKinds m)
kinds = record {
  joined = λ m f h g. keeps_then m f h g;
  wanting = λ m wanted h. h;
  gives = λ v. keeps_give v;
  stops = λ V stop. keeps_stop_with V stop;
  ticks = keeps_tick;
  reads_local = keeps_get_local;
  reads_arg = keeps_get_arg;
  reads_name = keeps_get_name;
  reads_own = keeps_get_own;
  reads_own_field = keeps_own_field;
  writes_local = keeps_set_local;
  writes_arg = keeps_set_arg;
  writes_name = keeps_set_name;
  writes_own = keeps_set_own;
  makes_own = keeps_make_own;
  changes = keeps_change;
  peeks = keeps_peek;
  reads_unit = keeps_read_unit;
  makes_event = keeps_make_event;
  sleeps = keeps_sleep;
  acquires = keeps_acquire;
  releases = keeps_release;
  holds_none = keeps_none_held;
  turn_goes_on = keeps_turned;
  is_spent = keeps_spent;
  loops = keeps_loop;
  frames = keeps_framed;
}

pub terms_keep : TermsKeepKinds
terms_keep here calls t = has_mean (λ V m. KeepsKinds m) kinds here calls t

pub values_keep : ValuesKeepKinds
values_keep = record {
  one = λ here calls t. has_value (λ V m. KeepsKinds m) kinds here calls t;
  all = λ here calls ts. has_values (λ V m. KeepsKinds m) kinds here calls ts;
}

pub lists_keep : ListsKeepKinds
lists_keep here calls ts = has_mean_all (λ V m. KeepsKinds m) kinds here calls ts

pub stores_keep : StoresKeepKinds
stores_keep here calls target v = has_store (λ V m. KeepsKinds m) kinds here calls target v

pub statements_keep : StatementsKeepKinds
statements_keep here calls t = has_statement (λ V m. KeepsKinds m) kinds here calls t

pub bodies_keep : BodiesKeepKinds
bodies_keep here calls ts = has_mean_body (λ V m. KeepsKinds m) kinds here calls ts

pub methods_keep : MethodsKeepKinds
methods_keep here calls body = has_mean_method (λ V m. KeepsKinds m) kinds here calls body

pub calls_keep : CallsWithinKeepKinds
calls_keep methods count p k values = has_call_within (λ V m. KeepsKinds m) kinds methods count p k values
