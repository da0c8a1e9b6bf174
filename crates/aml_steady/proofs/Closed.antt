-- What all parts of an evaluation have: those of which they are made have it, and what is made of parts has it where they do.
use Rattle.std.proofs.Common.{ℕ, List, Option, Some, None, Result, Ok, Err}
use Rattle.std.specs.Prelude.{Bool, true, false, if◌then◌else◌}
use Rattle.aml_values.specs.Values.{Value}
use Rattle.aml_namespace.specs.declared.link.Link.{Link}
use Rattle.aml_regions.specs.declared.access.Access.{Access}
use Rattle.aml_regions.specs.Events.{Event, Stalled}
use Rattle.aml_meaning.specs.declared.error.AmlError.{AmlError}
use Rattle.aml_meaning.specs.declared.action.Pause.{Pause as PauseKind}
use Rattle.aml_meaning.specs.declared.action.Pause.TheVariants as pause
use Rattle.aml_meaning.specs.declared.mutex.TakenMutex.{TakenMutex}
use Rattle.aml_meaning.specs.declared.buffer_field.BufferField.{BufferField}
use Rattle.aml_meaning.specs.Calls.{framed}
use Rattle.aml_meaning.specs.Changes.{change, peek}
use Rattle.aml_meaning.specs.Loops.{loop, spent, turned, turns}
use Rattle.aml_meaning.specs.Mutexes.{acquire, none_held, release}
use Rattle.aml_meaning.specs.Notices.{paused}
use Rattle.aml_meaning.specs.Owns.{define_field, define_own, get_own, make_own, own_field, set_own}
use Rattle.aml_meaning.specs.Parts.{M, ◌>>=◌, get_arg, get_local, get_name, give, lift, make_event, read_unit, set_arg, set_local, set_name, sleep, stop_with, tick}
use Rattle.aml_meaning.specs.Rules.{Place}
use Rattle.aml_meaning.specs.State.{Error, State, Stop}

pub record Closed (Has : (V : Type 0) → M V → Type 0) : Type 1 where
  -- one part and what follows it, wherever memory is wanted for them
  pub joined : {V W : Type 0} (m : M V) (f : V → M W) → Has V m → ((v : V) → Has W (f v)) → Has W (m >>= f)
  pub wanting : {V : Type 0} (m : M V) (wanted : List Event → State → Bool) → Has V m → Has V (record m { wants = wanted })
  -- what goes on, or stops, or takes a step
  pub gives : {V : Type 0} (v : V) → Has V (give v)
  pub stops : (V : Type 0) (stop : Stop) → Has V (stop_with stop)
  pub ticks : Has (Unit {0}) tick
  -- locals, arguments, data names and own names
  pub reads_local : (table at k : ℕ) → Has Value (get_local table at k)
  pub reads_arg : (table at k : ℕ) → Has Value (get_arg table at k)
  pub reads_name : (table at k : ℕ) → Has Value (get_name table at k)
  pub reads_own : (table at k : ℕ) → Has Value (get_own table at k)
  pub reads_own_field : (k : ℕ) → Has (Option BufferField) (own_field k)
  pub writes_local : (k : ℕ) (v : Value) → Has (Unit {0}) (set_local k v)
  pub writes_arg : (k : ℕ) (v : Value) → Has (Unit {0}) (set_arg k v)
  pub writes_name : (table at k : ℕ) (v : Value) → Has (Unit {0}) (set_name table at k v)
  pub writes_own : (table at k : ℕ) (v : Value) → Has (Unit {0}) (set_own table at k v)
  pub makes_own : (width : ℕ) (held : Option Value) (field : Option BufferField) → Has (Unit {0}) (make_own width held field)
  pub changes : (l : Link) (rule : Option Value → Result Value AmlError) → Has (Unit {0}) (change l rule)
  pub peeks : (l : Link) (rule : Option Value → Result Value AmlError) → Has Value (peek l rule)
  -- calls on the world
  pub reads_unit : (access : Access) → Has ℕ (read_unit access)
  pub makes_event : (event : Event) → Has (Unit {0}) (make_event event)
  pub sleeps : (n : ℕ) → Has (Unit {0}) (sleep n)
  -- mutexes
  pub acquires : (table at : ℕ) (m : TakenMutex) → Has (Unit {0}) (acquire table at m)
  pub releases : (table at : ℕ) (m : TakenMutex) → Has (Unit {0}) (release table at m)
  pub holds_none : (table at : ℕ) → Has (Unit {0}) (none_held table at)
  -- loops, and a body in a frame of its own
  pub turn_goes_on : (body rest : M (Unit {0})) → Has (Unit {0}) body → Has (Unit {0}) rest → Has (Unit {0}) (turned body rest)
  pub is_spent : Has (Unit {0}) spent
  pub loops : (test : M ℕ) (body : M (Unit {0})) → ((n : ℕ) → Has (Unit {0}) (turns n test body)) → Has (Unit {0}) (loop test body)
  pub frames : (table : ℕ) (values : List Value) (body : M (Unit {0})) → Has (Unit {0}) body → Has (Option Value) (framed table values body)

module _ (Has : (V : Type 0) → M V → Type 0) where
  -- whatever is called, from whatever place, with whatever arguments
  abbrev pub CallsHave : (Place → ℕ → List Value → M (Option Value)) → Type 0
  CallsHave call = (p : Place) (k : ℕ) (vs : List Value) → Has (Option Value) (call p k vs)

  module _ (is : Closed Has) where
    -- what a rule gives, or its error
    pub has_lift : {V : Type 0} (r : Result V AmlError) → Has V (lift r)
    has_lift (Ok v) = is.gives v
    has_lift (Err e) = is.stops _ (Error e)

    -- one of two parts
    pub has_choice : {V : Type 0} (b : Bool) (m n : M V) → Has V m → Has V n → Has V (if b then m else n)
    has_choice true m n h g = h
    has_choice false m n h g = g

    -- a step, and then a stop
    pub has_stepped_out : (V : Type 0) (stop : Stop) → Has V (tick >>= (λ u. stop_with {V = V} stop))
    has_stepped_out V stop = is.joined tick _ is.ticks (λ u. is.stops V stop)

    pub has_paused : (f : PauseKind) (n : ℕ) → Has (Unit {0}) (paused f n)
    has_paused pause.Sleep n = is.sleeps n
    has_paused pause.Stall n = is.makes_event (Stalled n)

    pub has_define_own : (width : ℕ) (v : Value) → Has (Unit {0}) (define_own width v)
    has_define_own width v = is.makes_own width (Some v) None

    pub has_define_field : (width : ℕ) (f : BufferField) → Has (Unit {0}) (define_field width f)
    has_define_field width f = is.makes_own width None (Some f)
