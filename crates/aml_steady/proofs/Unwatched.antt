-- What an evaluation is made of goes unwatched as it goes watched, so all evaluations do.
use Rattle.std.proofs.Common.{◌≡◌, ℕ, zero, suc, List, [], ◌∷◌, Option, Some, None, Result, Ok, Err, refl, ap, ◌∙◌}
use Rattle.std.specs.Prelude.{Bool, true, false, ◌==◌, cond, slice_get, length, nat_le}
use Rattle.aml_values.specs.Values.{Value}
use Rattle.aml_contents.specs.Contents.{Contents, content_at}
use Rattle.aml_namespace.specs.declared.link.Link.{Link}
use Rattle.aml_namespace.specs.declared.link.Link.TheVariants as link
use Rattle.aml_regions.specs.declared.access.Access.{Access}
use Rattle.aml_regions.specs.Events.{Event, Read, Written, Notified, Slept, Stalled, same_access}
use Rattle.aml_meaning.specs.declared.error.AmlError.{AmlError}
use Rattle.aml_meaning.specs.declared.mutex.TakenMutex.{TakenMutex}
use Rattle.aml_meaning.specs.declared.buffer_field.BufferField.{BufferField}
use Rattle.aml_meaning.specs.Calls.{framed, inside, left}
use Rattle.aml_meaning.specs.Changes.{change, changed_or, held_by, holding, peek, peeked_or}
use Rattle.aml_meaning.specs.Loops.{loop, spent, turn_end, turned, turns}
use Rattle.aml_meaning.specs.Mutexes.{acquire, acquired_or, ended_or, if_watched, none_held, release, released_or, without_last}
use Rattle.aml_meaning.specs.Owns.{get_own, make_own, own_field, own_stored_or, set_own}
use Rattle.aml_meaning.specs.Parts.{M, Effect, ◌>>=◌, answer, content_or, get_arg, get_local, get_name, give, make_event, may_store, paid, read_unit, set_arg, set_local, set_name, sleep, stop_with, stored_or, take_step, then_do, tick, with_event, woken, woken_or}
use Rattle.aml_meaning.specs.State.{Broke, Continued, Error, Frame, Goes, Halts, NoAnswer, Out, Returned, Spent, State, Stop, held_level, with_steps}
use Rattle.aml_meaning.specs.Within.{call_within, setting_for}
use Rattle.aml_steady.specs.Unwatched.{GoesUnwatched, BreaksNone, MethodsGoUnwatched, unwatched, unwatched_frame, without_mutexes}
use Rattle.aml_steady.proofs.Closed.{Closed}
use Rattle.aml_steady.proofs.Methods.{has_call_within, has_mean_method}

-- one part, and what follows it
first_is_none : {V W : Type 0} (o : Out V) (f : V → State → Out W) → BreaksNone (then_do o f) → BreaksNone o
first_is_none (Goes v s) f e = tt
first_is_none (Halts (Error error) s) f e = e
first_is_none (Halts (Returned v) s) f e = tt
first_is_none (Halts (Broke at) s) f e = tt
first_is_none (Halts (Continued at) s) f e = tt
first_is_none (NoAnswer s) f e = tt
first_is_none (Spent s) f e = tt

then_goes : {V W : Type 0} (o : Out V) (f : V → State → Out W) → ((v : V) (s : State) → BreaksNone (f v s) → f v (unwatched s) ≡ without_mutexes (f v s)) → BreaksNone (then_do o f) → then_do (without_mutexes o) f ≡ without_mutexes (then_do o f)
then_goes (Goes v s) f g e = g v s e
then_goes (Halts stop s) f g e = refl
then_goes (NoAnswer s) f g e = refl
then_goes (Spent s) f g e = refl

goes_then : {V W : Type 0} (m : M V) (f : V → M W) → GoesUnwatched m → ((v : V) → GoesUnwatched (f v)) → GoesUnwatched (m >>= f)
unfolding ◌>>=◌
goes_then m f h g script s e =
    ap (λ o. then_do o (λ v next. (f v).run script next)) (h script s (first_is_none (m.run script s) _ e))
    ∙ then_goes (m.run script s) _ (λ v next. g v script next) e

goes_give : {V : Type 0} (v : V) → GoesUnwatched (give v)
unfolding give
goes_give v script s e = refl

goes_stop_with : (V : Type 0) (stop : Stop) → GoesUnwatched (stop_with {V = V} stop)
unfolding stop_with
goes_stop_with V stop script s e = refl

-- a step, and what it pays for
step_goes : {V : Type 0} (n : ℕ) (s : State) (f : State → Out V) → ((next : State) → BreaksNone (f next) → f (unwatched next) ≡ without_mutexes (f next)) → BreaksNone (take_step n s f) → take_step n (unwatched s) f ≡ without_mutexes (take_step n s f)
step_goes zero s f h e = refl
step_goes (suc n) s f h e = h (with_steps s n) e

goes_paid : {V : Type 0} (effect : Effect V) → ((script : List Event) (s : State) → BreaksNone (effect.run script s) → effect.run script (unwatched s) ≡ without_mutexes (effect.run script s)) → GoesUnwatched (paid effect)
unfolding paid
goes_paid effect h script s e = step_goes s.steps s (effect.run script) (h script) e

goes_tick : GoesUnwatched tick
unfolding tick
goes_tick = goes_paid _ (λ script s e. refl)

-- locals, arguments and names
content_goes : (table at : ℕ) (slot : Option (Option Value)) (s : State) → content_or table at slot (unwatched s) ≡ without_mutexes (content_or table at slot s)
content_goes table at (Some (Some v)) s = refl
content_goes table at (Some None) s = refl
content_goes table at None s = refl

goes_get_local : (table at k : ℕ) → GoesUnwatched (get_local table at k)
unfolding get_local
goes_get_local table at k script s e = content_goes table at (slice_get s.frame.locals k) s

goes_get_arg : (table at k : ℕ) → GoesUnwatched (get_arg table at k)
unfolding get_arg
goes_get_arg table at k script s e = content_goes table at (slice_get s.frame.args k) s

goes_get_name : (table at k : ℕ) → GoesUnwatched (get_name table at k)
unfolding get_name
goes_get_name table at k script s e = content_goes table at (Some (content_at s.names.contents k)) s

goes_get_own : (table at k : ℕ) → GoesUnwatched (get_own table at k)
unfolding get_own
goes_get_own table at k script s e = content_goes table at (Some (content_at s.frame.owns.contents k)) s

goes_own_field : (k : ℕ) → GoesUnwatched (own_field k)
unfolding own_field
goes_own_field k script s e = refl

goes_set_local : (k : ℕ) (v : Value) → GoesUnwatched (set_local k v)
unfolding set_local
goes_set_local k v script s e = refl

goes_set_arg : (k : ℕ) (v : Value) → GoesUnwatched (set_arg k v)
unfolding set_arg
goes_set_arg k v script s e = refl

stored_goes : (may : Bool) (table at k : ℕ) (v : Value) (s : State) → stored_or may table at k v (unwatched s) ≡ without_mutexes (stored_or may table at k v s)
stored_goes true table at k v s = refl
stored_goes false table at k v s = refl

goes_set_name : (table at k : ℕ) (v : Value) → GoesUnwatched (set_name table at k v)
unfolding set_name
goes_set_name table at k v = goes_paid _ (λ script s e. stored_goes (may_store s.names.kinds k v) table at k v s)

own_stored_goes : (may : Bool) (table at k : ℕ) (v : Value) (s : State) → own_stored_or may table at k v (unwatched s) ≡ without_mutexes (own_stored_or may table at k v s)
own_stored_goes true table at k v s = refl
own_stored_goes false table at k v s = refl

goes_set_own : (table at k : ℕ) (v : Value) → GoesUnwatched (set_own table at k v)
unfolding set_own
goes_set_own table at k v = goes_paid _ (λ script s e. own_stored_goes (may_store s.frame.owns.kinds k v) table at k v s)

goes_make_own : (width : ℕ) (held : Option Value) (field : Option BufferField) → GoesUnwatched (make_own width held field)
unfolding make_own
goes_make_own width held field script s e = refl

-- contents that are changed in place
held_unwatched : (l : Link) (s : State) → held_by l (unwatched s) ≡ held_by l s
held_unwatched (link.Method id) s = refl
held_unwatched link.OsInterfaces s = refl
held_unwatched (link.Data id) s = refl
held_unwatched (link.Field id) s = refl
held_unwatched (link.BufferField id) s = refl
held_unwatched (link.Object id) s = refl
held_unwatched (link.Own k) s = refl
held_unwatched link.Missing s = refl

holding_goes : (l : Link) (s : State) (v : Value) → holding l (unwatched s) v ≡ unwatched (holding l s v)
holding_goes (link.Method id) s v = refl
holding_goes link.OsInterfaces s v = refl
holding_goes (link.Data id) s v = refl
holding_goes (link.Field id) s v = refl
holding_goes (link.BufferField id) s v = refl
holding_goes (link.Object id) s v = refl
holding_goes (link.Own k) s v = refl
holding_goes link.Missing s v = refl

changed_goes : (l : Link) (s : State) (r : Result Value AmlError) → changed_or l (unwatched s) r ≡ without_mutexes (changed_or l s r)
changed_goes l s (Ok v) = ap (Goes tt) (holding_goes l s v)
changed_goes l s (Err e) = refl

goes_change : (l : Link) (rule : Option Value → Result Value AmlError) → GoesUnwatched (change l rule)
unfolding change
goes_change l rule = goes_paid _ (λ script s e. rw (held_unwatched l s) (changed_goes l s (rule (held_by l s))))

peeked_goes : (s : State) (r : Result Value AmlError) → peeked_or (unwatched s) r ≡ without_mutexes (peeked_or s r)
peeked_goes s (Ok v) = refl
peeked_goes s (Err e) = refl

goes_peek : (l : Link) (rule : Option Value → Result Value AmlError) → GoesUnwatched (peek l rule)
unfolding peek
goes_peek l rule script s e = rw (held_unwatched l s) (peeked_goes s (rule (held_by l s)))

-- calls on the world
found_goes : (b : Bool) (access : Access) (v : ℕ) (s : State) → cond b (Goes v (with_event (unwatched s) (Read access v))) (NoAnswer (unwatched s)) ≡ without_mutexes (cond b (Goes v (with_event s (Read access v))) (NoAnswer s))
found_goes true access v s = refl
found_goes false access v s = refl

answer_goes : (access : Access) (event : Option Event) (s : State) → answer access event (unwatched s) ≡ without_mutexes (answer access event s)
answer_goes access (Some (Read other v)) s = found_goes (same_access access other) access v s
answer_goes access (Some (Written other v)) s = refl
answer_goes access (Some (Notified object v)) s = refl
answer_goes access (Some (Slept v left)) s = refl
answer_goes access (Some (Stalled v)) s = refl
answer_goes access None s = refl

goes_read_unit : (access : Access) → GoesUnwatched (read_unit access)
unfolding read_unit
goes_read_unit access = goes_paid _ (λ script s e. answer_goes access (slice_get script (length s.log)) s)

goes_make_event : (event : Event) → GoesUnwatched (make_event event)
unfolding make_event
goes_make_event event = goes_paid _ (λ script s e. refl)

awake_goes : (b : Bool) (n : ℕ) (left : Option Contents) (s : State) → woken_or b n left (unwatched s) ≡ without_mutexes (woken_or b n left s)
awake_goes true n left s = refl
awake_goes false n left s = refl

woken_goes : (n : ℕ) (event : Option Event) (s : State) → woken n event (unwatched s) ≡ without_mutexes (woken n event s)
woken_goes n (Some (Read access v)) s = refl
woken_goes n (Some (Written access v)) s = refl
woken_goes n (Some (Notified object v)) s = refl
woken_goes n (Some (Slept m left)) s = awake_goes (n == m) n left s
woken_goes n (Some (Stalled v)) s = refl
woken_goes n None s = refl

goes_sleep : (n : ℕ) → GoesUnwatched (sleep n)
unfolding sleep
goes_sleep n = goes_paid _ (λ script s e. woken_goes n (slice_get script (length s.log)) s)

-- mutexes: where none is refused, watching them changes nothing else
watched_goes : (watched : Bool) (s : State) (o : Out (Unit {0})) → (BreaksNone o → Goes tt (unwatched s) ≡ without_mutexes o) → BreaksNone (if_watched watched s o) → Goes tt (unwatched s) ≡ without_mutexes (if_watched watched s o)
watched_goes true s o h e = h e
watched_goes false s o h e = refl

acquired_goes : (may : Bool) (table at : ℕ) (m : TakenMutex) (s : State) → BreaksNone (acquired_or may table at m s) → Goes tt (unwatched s) ≡ without_mutexes (acquired_or may table at m s)
acquired_goes true table at m s e = refl
acquired_goes false table at m s e = absurd cc

goes_acquire : (table at : ℕ) (m : TakenMutex) → GoesUnwatched (acquire table at m)
unfolding acquire
goes_acquire table at m script s e = watched_goes s.frame.watched s _ (acquired_goes (nat_le (held_level s.frame) m.level) table at m s) e

released_goes : (held : Option (List TakenMutex)) (table at : ℕ) (s : State) → BreaksNone (released_or held table at s) → Goes tt (unwatched s) ≡ without_mutexes (released_or held table at s)
released_goes (Some held) table at s e = refl
released_goes None table at s e = absurd cc

goes_release : (table at : ℕ) (m : TakenMutex) → GoesUnwatched (release table at m)
unfolding release
goes_release table at m script s e = watched_goes s.frame.watched s _ (released_goes (without_last m.object.0 s.frame.held) table at s) e

ended_goes : (held : List TakenMutex) (table at : ℕ) (s : State) → BreaksNone (ended_or held table at s) → Goes tt (unwatched s) ≡ without_mutexes (ended_or held table at s)
ended_goes [] table at s e = refl
ended_goes (m ∷ ms) table at s e = absurd cc

goes_none_held : (table at : ℕ) → GoesUnwatched (none_held table at)
unfolding none_held
goes_none_held table at script s e = watched_goes s.frame.watched s _ (ended_goes s.frame.held table at s) e

-- loops
turn_is_none : (o : Out (Unit {0})) (rest : State → Out (Unit {0})) → BreaksNone (turn_end o rest) → BreaksNone o
turn_is_none (Goes v s) rest e = tt
turn_is_none (Halts (Continued at) s) rest e = tt
turn_is_none (Halts (Broke at) s) rest e = tt
turn_is_none (Halts (Error error) s) rest e = e
turn_is_none (Halts (Returned v) s) rest e = tt
turn_is_none (NoAnswer s) rest e = tt
turn_is_none (Spent s) rest e = tt

turn_goes : (o : Out (Unit {0})) (rest : State → Out (Unit {0})) → ((s : State) → BreaksNone (rest s) → rest (unwatched s) ≡ without_mutexes (rest s)) → BreaksNone (turn_end o rest) → turn_end (without_mutexes o) rest ≡ without_mutexes (turn_end o rest)
turn_goes (Goes v s) rest g e = g s e
turn_goes (Halts (Continued at) s) rest g e = g s e
turn_goes (Halts (Broke at) s) rest g e = refl
turn_goes (Halts (Error error) s) rest g e = refl
turn_goes (Halts (Returned v) s) rest g e = refl
turn_goes (NoAnswer s) rest g e = refl
turn_goes (Spent s) rest g e = refl

goes_turned : (body rest : M (Unit {0})) → GoesUnwatched body → GoesUnwatched rest → GoesUnwatched (turned body rest)
unfolding turned
goes_turned body rest h g script s e =
    ap (λ o. turn_end o (rest.run script)) (h script s (turn_is_none (body.run script s) _ e))
    ∙ turn_goes (body.run script s) (rest.run script) (g script) e

goes_spent : GoesUnwatched spent
unfolding spent
goes_spent script s e = refl

goes_loop : (test : M ℕ) (body : M (Unit {0})) → ((n : ℕ) → GoesUnwatched (turns n test body)) → GoesUnwatched (loop test body)
unfolding loop
goes_loop test body h script s e = h (suc s.steps) script s e

-- a body in a frame of its own, and the caller's frame behind it
left_is_none : (table : ℕ) (frame : Frame) (o : Out (Unit {0})) → BreaksNone (left table frame o) → BreaksNone o
left_is_none table frame (Goes v s) e = tt
left_is_none table frame (Halts (Returned v) s) e = tt
left_is_none table frame (Halts (Broke at) s) e = tt
left_is_none table frame (Halts (Continued at) s) e = tt
left_is_none table frame (Halts (Error error) s) e = e
left_is_none table frame (NoAnswer s) e = tt
left_is_none table frame (Spent s) e = tt

left_goes : (table : ℕ) (frame : Frame) (o : Out (Unit {0})) → left table (unwatched_frame frame) (without_mutexes o) ≡ without_mutexes (left table frame o)
left_goes table frame (Goes v s) = refl
left_goes table frame (Halts (Returned v) s) = refl
left_goes table frame (Halts (Broke at) s) = refl
left_goes table frame (Halts (Continued at) s) = refl
left_goes table frame (Halts (Error error) s) = refl
left_goes table frame (NoAnswer s) = refl
left_goes table frame (Spent s) = refl

goes_framed : (table : ℕ) (values : List Value) (body : M (Unit {0})) → GoesUnwatched body → GoesUnwatched (framed table values body)
unfolding framed
goes_framed table values body h script s e =
    ap (left table (unwatched_frame s.frame)) (h script (inside values s) (left_is_none table s.frame (body.run script (inside values s)) e))
    ∙ left_goes table s.frame (body.run script (inside values s))

closed : Closed (λ V m. GoesUnwatched m)
closed = record {
  joined = λ m f h g. goes_then m f h g;
  wanting = λ m wanted h. h;
  gives = λ v. goes_give v;
  stops = λ V stop. goes_stop_with V stop;
  ticks = goes_tick;
  reads_local = goes_get_local;
  reads_arg = goes_get_arg;
  reads_name = goes_get_name;
  reads_own = goes_get_own;
  reads_own_field = goes_own_field;
  writes_local = goes_set_local;
  writes_arg = goes_set_arg;
  writes_name = goes_set_name;
  writes_own = goes_set_own;
  makes_own = goes_make_own;
  changes = goes_change;
  peeks = goes_peek;
  reads_unit = goes_read_unit;
  makes_event = goes_make_event;
  sleeps = goes_sleep;
  acquires = goes_acquire;
  releases = goes_release;
  holds_none = goes_none_held;
  turn_goes_on = goes_turned;
  is_spent = goes_spent;
  loops = goes_loop;
  frames = goes_framed;
}

pub methods_go_unwatched : MethodsGoUnwatched
methods_go_unwatched methods more m values =
    goes_framed m.table values _ (has_mean_method (λ V part. GoesUnwatched part) closed (setting_for methods (call_within methods more) m)
    (λ p k vs. has_call_within (λ V part. GoesUnwatched part) closed methods more p k vs) m.body)
