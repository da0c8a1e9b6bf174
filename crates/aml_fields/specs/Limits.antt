-- What a limit of events makes of the reads and the writes of a field (ACPI 6.5, 19.6, Field,
-- IndexField and BankField).
use Rattle.std.specs.Prelude.{◌≡◌, ◌<◌, ◌≤◌, ◌+◌, ◌-◌, ℕ, List, length, Result, Ok, Err}
use Rattle.aml_regions.specs.Events.{Event, Log}
use Rattle.aml_regions.specs.declared.field.AnyField.{AnyField}
use Rattle.aml_meaning.specs.Fields.{read_bytes, read_count, read_integer, write_bits, write_count}
use Rattle.aml_meaning.specs.Parts.{M}
use Rattle.aml_meaning.specs.Runs.{Halt, NoMemory, OutOfSteps, By, IsPrefix, Runs, state}
use Rattle.aml_meaning.specs.State.{Frame, Names, State, with_steps, Out, Goes, Halts, NoAnswer, Spent, state_of}

-- of so many events: it goes on only behind all of them, and ends out of steps only where fewer
-- steps were left, behind as many events as there were steps; it never halts
abbrev pub GoesBy : {V : Type 0} → ℕ → State → Out V → Type 0
GoesBy n s (Goes v last) = (s.steps ≡ last.steps + n) × (length last.log ≡ length s.log + n)
GoesBy n s (Halts stop last) = ⊥
GoesBy n s (NoAnswer last) = Unit {0}
GoesBy n s (Spent last) = (s.steps < n) × (length last.log ≡ length s.log + s.steps)

-- the events before steps are wanting begin those that are made with more steps
abbrev pub BeginsWith : {V : Type 0} → Out V → Out V → Type 0
BeginsWith (Spent last) more = IsPrefix last.log (state_of more).log
BeginsWith o more = Unit {0}

-- so many events are made, whatever a script answers; with fewer steps, the first of them, as many
-- as there are steps
abbrev pub HasEvents : {V : Type 0} → ℕ → M V → Type 0
HasEvents n m = (script : List Event) (s : State) (k : ℕ) →
    GoesBy n s (m.run script s)
    × BeginsWith (m.run script s) (m.run script (with_steps s (s.steps + k)))

-- what an answer tells of a limit: a value is there just where the events are within it
abbrev pub IsWithin : {V : Type 0} → ℕ → ℕ → Result V Halt → Type 0
IsWithin n limit (Ok v) = n ≤ limit
IsWithin n limit (Err OutOfSteps) = limit < n
IsWithin n limit (Err NoMemory) = Unit {0}
IsWithin n limit (Err (By stop)) = ⊥

-- the answer of an evaluation that has so many events tells whether they are within its limit
abbrev pub TellsLimit : {V : Type 0} → ℕ → M V → Type 0
TellsLimit {V} n m =
    (r : Result V Halt) (frame : Frame) (names : Names) (limit : ℕ) (old new : Log) →
    Runs r m (state frame names limit old) (state frame names (limit - n) new) → IsWithin n limit r

-- a read of a field, as an integer or as bytes, has as many events as are counted
abbrev pub ReadsHaveTheirEvents : Type 0
ReadsHaveTheirEvents = (f : AnyField) →
    HasEvents (read_count f) (read_integer f) × HasEvents (read_count f) (read_bytes f)

-- and so has a write
abbrev pub WritesHaveTheirEvents : Type 0
WritesHaveTheirEvents = (f : AnyField) (bit : ℕ → ℕ) → HasEvents (write_count f) (write_bits f bit)

-- so the answer of each tells whether the field's events are within the limit
abbrev pub AnswersTellTheLimit : Type 0
AnswersTellTheLimit = (f : AnyField) (bit : ℕ → ℕ) →
    TellsLimit (read_count f) (read_integer f) × TellsLimit (read_count f) (read_bytes f)
    × TellsLimit (write_count f) (write_bits f bit)
