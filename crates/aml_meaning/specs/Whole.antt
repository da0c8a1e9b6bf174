-- What a method means, from its beginning to its end.
use Rattle.std.specs.Int.{bit_at}
use Rattle.std.specs.Prelude.{◌≡◌, ◌<◌, ◌≤◌, ◌^◌, ℕ, suc, ◌+◌, List, [], length, slice_get, Bool, Option, Some, true}
use Rattle.aml_operators.specs.Tree.{Trees}
use Rattle.aml_values.specs.Values.{Value}
use Rattle.aml_contents.specs.Contents.{Contents}
use Rattle.aml_regions.specs.declared.access.Access.{Access}
use Rattle.aml_regions.specs.Events.{Event, Log, Read, Slept}
use Rattle.aml_meaning.specs.declared.error.AmlError.{AmlError}
use Rattle.aml_meaning.specs.declared.action.Bitwise.TheVariants as bitwise
use Rattle.aml_meaning.specs.Rules.{transform}
use Rattle.aml_meaning.specs.State.{State, Names, with_steps, entered, Error, Out, Goes, Halts, NoAnswer}
use Rattle.aml_meaning.specs.Parts.{read_unit, sleep, with_event, with_sleep}
use Rattle.aml_meaning.specs.Calls.{framed}
use Rattle.aml_meaning.specs.Meaning.{Setting}
use Rattle.aml_meaning.specs.Definitions.{mean_method}

-- before a method begins whose mutexes are watched, or not: what names hold, so many steps, and
-- what the world keeps
abbrev pub begun : Bool → Names → ℕ → Log → State
begun watched names n log = record {
  frame = entered watched 0 [];
  names = names;
  steps = n;
  log = log.events;
  refusals = log.refusals;
}

-- before a method begins, as the definition has it: mutexes are watched
abbrev pub before : Names → ℕ → Log → State
before names n log = begun true names n log

-- a method's evaluation where its body stands, with its arguments, fed with a script of answers,
-- from a state
abbrev pub evaluated : Setting → Trees → List Value → List Event → State → Out (Option Value)
evaluated here body values script s =
    (framed here.table values (mean_method here body)).run script s

-- what is done with n steps is done with more, and they are left over
abbrev pub DoneIsStable : Type 0
DoneIsStable =
    (here : Setting) (body : Trees) (values : List Value) (script : List Event) (s : State)
    (more : ℕ) (value : Option Value) (last : State) → evaluated here body values script s ≡
    Goes value last → evaluated here body values script (with_steps s (s.steps + more)) ≡
    Goes value (with_steps last (last.steps + more))

-- an error with n steps is the same error with more
abbrev pub ErrorIsStable : Type 0
ErrorIsStable =
    (here : Setting) (body : Trees) (values : List Value) (script : List Event) (s : State)
    (more : ℕ) (e : AmlError) (last : State) → evaluated here body values script s ≡
    Halts (Error e) last → evaluated here body values script (with_steps s (s.steps + more)) ≡
    Halts (Error e) (with_steps last (last.steps + more))

-- a read goes on with the answer that the script has for it, which is then among the events
abbrev pub ReadIsAnswered : Type 0
ReadIsAnswered = (access : Access) (value n : ℕ) (script : List Event) (s : State) →
    slice_get script (length s.log) ≡ Some (Read access value) → s.steps ≡ suc n →
    (read_unit access).run script s ≡ Goes value (with_event (with_steps s n) (Read access value))

-- another unit's answer is none
abbrev pub OtherAnswerIsNone : Type 0
OtherAnswerIsNone = (access other : Access) (value n : ℕ) (script : List Event) (s : State) →
    slice_get script (length s.log) ≡ Some (Read other value) → (access ≡ other → ⊥) →
    s.steps ≡ suc n → (read_unit access).run script s ≡ NoAnswer (with_steps s n)

-- a Sleep goes on with what the script says that it left, which is then among the events
abbrev pub SleepIsAnswered : Type 0
SleepIsAnswered = (n k : ℕ) (left : Option Contents) (script : List Event) (s : State) →
    slice_get script (length s.log) ≡ Some (Slept n left) → s.steps ≡ suc k →
    (sleep n).run script s ≡ Goes tt (with_sleep (with_steps s k) n left)

-- another event is no answer
abbrev pub OtherIsNoSleep : Type 0
OtherIsNoSleep = (n k : ℕ) (event : Event) (script : List Event) (s : State) →
    slice_get script (length s.log) ≡ Some event →
    ((left : Option Contents) → event ≡ Slept n left → ⊥) → s.steps ≡ suc k →
    (sleep n).run script s ≡ NoAnswer (with_steps s k)

-- the highest bit of a number that is not 0: the number has it, and is below the next
abbrev pub LeftBitIsHighest : Type 0
LeftBitIsHighest = (n : ℕ) → 0 < n → n < 2 ^ 64 →
    (j : ℕ) × (transform bitwise.FindSetLeftBit n ≡ suc j) × (2 ^ j ≤ n) × (n < 2 ^ suc j)

-- its lowest bit is set, and none below is
abbrev pub RightBitIsLowest : Type 0
RightBitIsLowest =
    (n : ℕ) → 0 < n → n < 2 ^ 64 → (j : ℕ) × (transform bitwise.FindSetRightBit n ≡ suc j)
    × (bit_at n j ≡ 1) × ((i : ℕ) → i < j → bit_at n i ≡ 0)

-- 0 has no bit to be found
abbrev pub ZeroHasNoBit : Type 0
ZeroHasNoBit = (transform bitwise.FindSetLeftBit 0 ≡ 0) × (transform bitwise.FindSetRightBit 0 ≡ 0)
