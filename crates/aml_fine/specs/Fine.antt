-- An evaluation that meets no error and has its steps, whatever is answered that fits: nothing is
-- said of why.
use Rattle.std.specs.Prelude.{◌≡◌, ◌<◌, List, Result, Ok, Err}
use Rattle.aml_regions.specs.Events.{Event, AreWords}
use Rattle.aml_meaning.specs.State.{State, Error, Returned, Broke, Continued, Out, Goes}
use Rattle.aml_meaning.specs.Parts.{M}
use Rattle.aml_meaning.specs.Runs.{Halt, NoMemory, OutOfSteps, By, IsPrefix}
use Rattle.aml_judged.specs.Fine.{IsGood}

-- what comes of each script that fits and that the log begins is no error, and no want of steps
abbrev pub AreGood : {V : Type 0} → (List Event → Type 0) → State → (List Event → Out V) → Type 0
AreGood Fits s outcome =
    (script : List Event) → IsPrefix s.log script → Fits script → IsGood (outcome script)

-- an evaluation that meets no error and has its steps, with each script of some that fit
pub record FineOver {V : Type 0} (Fits : List Event → Type 0) (m : M V) (s : State) : Type 0 where
  pub words : Fits s.log
  pub runs : AreGood Fits s (λ script. m.run script s)

-- the same with each script whose answers fit their widths and the kinds of the names
abbrev pub Fine : {V : Type 0} → M V → State → Type 0
Fine m s = FineOver (AreWords s.names.kinds) m s

-- an answer that is neither an error nor want of steps
abbrev pub IsSure : {V : Type 0} → Result V Halt → Type 0
IsSure (Ok v) = Unit {0}
IsSure (Err NoMemory) = Unit {0}
IsSure (Err OutOfSteps) = ⊥
IsSure (Err (By (Error e))) = ⊥
IsSure (Err (By (Returned v))) = Unit {0}
IsSure (Err (By (Broke at))) = Unit {0}
IsSure (Err (By (Continued at))) = Unit {0}

-- wherever it goes on, it has taken a step
pub record TakesAStep {V : Type 0} (m : M V) : Type 0 where
  pub each :
      (script : List Event) (s next : State) (v : V) →
      m.run script s ≡ Goes v next → next.steps < s.steps
