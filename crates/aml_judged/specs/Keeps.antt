-- What any term leaves as it was, whatever its operators: of use where a loop's turns are counted.
use Rattle.std.specs.Prelude.{◌≡◌, ℕ, List, slice_get, Bool, true, false}
use Rattle.aml_operators.specs.Tree.{Tree}
use Rattle.aml_regions.specs.Events.{Event}
use Rattle.aml_meaning.specs.State as state
use Rattle.aml_meaning.specs.State.{State, Error, Returned, Broke, Continued, Out, Halts, NoAnswer, Spent}
use Rattle.aml_meaning.specs.Meaning.{Setting, mean}
use Rattle.aml_bounds.specs.Shapes.{is_local, assigns, continues}
use Rattle.aml_judged.specs.Safe.{AreTame}

-- where it goes on, breaks or continues, a local is as before; and it continues only where it may
abbrev pub IsKept : {V : Type 0} → ℕ → Bool → State → Out V → Type 0
IsKept l c before (state.Goes v s) = slice_get s.frame.locals l ≡ slice_get before.frame.locals l
IsKept l c before (Halts (Error e) s) = Unit {0}
IsKept l c before (Halts (Returned v) s) = Unit {0}
IsKept l c before (Halts (Broke at) s) =
    slice_get s.frame.locals l ≡ slice_get before.frame.locals l
IsKept l c before (Halts (Continued at) s) =
    (slice_get s.frame.locals l ≡ slice_get before.frame.locals l) × (c ≡ true)
IsKept l c before (NoAnswer s) = Unit {0}
IsKept l c before (Spent s) = Unit {0}

-- a local that is no target in a term is kept by it, and a turn is ended early only by a Continue
-- of its loop that stands in it
abbrev pub TermsKeepLocals : Type 0
TermsKeepLocals =
    (here : Setting) → AreTame here.call → (l : ℕ) (t : Tree) → assigns (is_local l) t ≡ false →
    (script : List Event) (s : State) →
    IsKept l (continues t) s ((mean here t).run script s)
