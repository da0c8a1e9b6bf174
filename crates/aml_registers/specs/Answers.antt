-- What registers answer to the reads and the Sleeps among their events.
use Rattle.std.specs.Prelude.{◌≡◌, ℕ, zero, suc, ◌+◌, List, [], ◌∷◌, Option, Some, None, slice_get, take}
use Rattle.aml_contents.specs.Contents.{Contents}
use Rattle.aml_regions.specs.Bytes.{SameBytes, unit_of, with_unit}
use Rattle.aml_regions.specs.Events.{Event, Read, Written, Slept, Stalled}
use Rattle.aml_regions.specs.Text.{TextSets}
use Rattle.aml_regions.specs.declared.access.Access.{Access}

-- the bytes behind an event: a write puts its unit, any other event leaves them
abbrev pub behind_event : (ℕ → ℕ → ℕ) → Event → ℕ → ℕ → ℕ
behind_event bytes (Written access value) = with_unit bytes access value
behind_event bytes event = bytes

-- the bytes behind events, one after the other
abbrev pub left_by : (ℕ → ℕ → ℕ) → List Event → ℕ → ℕ → ℕ
left_by bytes [] = bytes
left_by bytes (event ∷ rest) = left_by (behind_event bytes event) rest

-- each read among events has the value that its unit had behind the events before it
abbrev pub AnswerReads : (ℕ → ℕ → ℕ) → List Event → Type 0
AnswerReads bytes events =
    (i : ℕ) (access : Access) (value : ℕ) → slice_get events i ≡ Some (Read access value)
    → value ≡ unit_of (left_by bytes (take i events)) access

-- no Sleep among events left other contents of names
abbrev pub LeaveNames : List Event → Type 0
LeaveNames events =
    (i milliseconds : ℕ) (left : Contents) →
    slice_get events i ≡ Some (Slept milliseconds (Some left)) → ⊥

-- events are answered as registers of these bytes answer them
abbrev pub AreAnswered : (ℕ → ℕ → ℕ) → List Event → Type 0
AreAnswered bytes events = AnswerReads bytes events × LeaveNames events

-- the same of the bytes that a text sets
abbrev pub AnswerByText : List ℕ → List Event → Type 0
AnswerByText text events = (bytes : ℕ → ℕ → ℕ) → TextSets text bytes → AreAnswered bytes events

-- the registers hold what the events left of the bytes that a text sets
abbrev pub HoldByText : List ℕ → List Event → (ℕ → ℕ → ℕ) → Type 0
HoldByText text events held =
    (bytes : ℕ → ℕ → ℕ) → TextSets text bytes → SameBytes (left_by bytes events) held

-- a number doubled so many times
abbrev pub doubled : ℕ → ℕ → ℕ
doubled zero n = n
doubled (suc times) n = doubled times n + doubled times n

-- a list as a number, from which it can be told again
abbrev pub number_of : List ℕ → ℕ
number_of [] = 0
number_of (x ∷ xs) = doubled x (1 + (number_of xs + number_of xs))

-- what stands in the log before the events: the text itself, as how long a Stall takes
abbrev pub start_of : List ℕ → Event
start_of text = Stalled (number_of text)
