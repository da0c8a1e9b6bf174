-- An evaluation in which mutexes are not watched goes as one in which they are, where that breaks
-- none of their rules: of the mutexes it keeps nothing, and all else is the same.
use Rattle.std.specs.Prelude.{◌≡◌, ℕ, List, [], Bool, true, false}
use Rattle.aml_values.specs.Values.{Value}
use Rattle.aml_regions.specs.Events.{Event}
use Rattle.aml_meaning.specs.declared.error.AmlCause.{AmlCause}
use Rattle.aml_meaning.specs.declared.error.AmlCause.TheVariants as cause
use Rattle.aml_meaning.specs.Calls.{framed}
use Rattle.aml_meaning.specs.Definitions.{mean_method}
use Rattle.aml_meaning.specs.Parts.{M}
use Rattle.aml_meaning.specs.State.{Frame, State, Error, Out, Goes, Halts, NoAnswer, Spent}
use Rattle.aml_meaning.specs.Within.{Callee, Methods, call_within, setting_for}

-- a frame of which no mutex is kept
abbrev pub unwatched_frame : Frame → Frame
unwatched_frame frame = record frame { held = []; outside = 0; watched = false }

-- a state with such a frame
abbrev pub unwatched : State → State
unwatched s = record s { frame = unwatched_frame s.frame }

-- an outcome whose state is such
abbrev pub without_mutexes : {V : Type 0} → Out V → Out V
without_mutexes (Goes v s) = Goes v (unwatched s)
without_mutexes (Halts stop s) = Halts stop (unwatched s)
without_mutexes (NoAnswer s) = NoAnswer (unwatched s)
without_mutexes (Spent s) = Spent (unwatched s)

-- an error of mutexes: by their levels, of one that is not held, or of one that still is
abbrev pub is_of_mutexes : AmlCause → Bool
is_of_mutexes cause.Level = true
is_of_mutexes cause.NotHeld = true
is_of_mutexes cause.StillHeld = true
is_of_mutexes other = false

-- an outcome is no such error
abbrev pub BreaksNone : {V : Type 0} → Out V → Type 0
BreaksNone (Halts (Error e) s) = is_of_mutexes e.cause ≡ false
BreaksNone o = Unit {0}

-- from a state of which no mutex is kept a part goes as it goes from the state itself, if there it
-- breaks no rule of mutexes
abbrev pub GoesUnwatched : {V : Type 0} → M V → Type 0
GoesUnwatched m = (script : List Event) (s : State) → BreaksNone (m.run script s) →
    m.run script (unwatched s) ≡ without_mutexes (m.run script s)

-- so does each method of any, with so many more active
abbrev pub MethodsGoUnwatched : Type 0
MethodsGoUnwatched =
    (methods : Methods) (more : ℕ) (m : Callee) (values : List Value) →
    let here = setting_for methods (call_within methods more) m in
    GoesUnwatched (framed m.table values (mean_method here m.body))
