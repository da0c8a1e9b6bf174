-- What others see of an evaluation: its calls on a world, in order.
use Rattle.std.specs.Prelude.{◌≡◌, ℕ, ◌<◌, ◌^◌, ◌==◌, ◌&&◌, Bool, true, List, Option, Some, slice_get}
use Rattle.aml_paths.specs.declared.scope.ObjectId.{ObjectId}
use Rattle.aml_contents.specs.Contents.{Contents, ContentKinds, are_fitting}
use Rattle.aml_regions.specs.declared.access.Access.{Access}

-- one call on a world: a read of a unit, with what was answered; a write of a value; a Notify of an
-- object with a value; a Sleep of so many milliseconds, with the contents of all data names that it
-- left, where it did not leave them as they were; a Stall of so many microseconds
pub data Event : Type 0 where
  Read : (access : Access) (value : ℕ) → Event
  Written : (access : Access) (value : ℕ) → Event
  Notified : (object : ObjectId) (value : ℕ) → Event
  Slept : (milliseconds : ℕ) (left : Option Contents) → Event
  Stalled : (microseconds : ℕ) → Event

-- an answer fits: a read's fits the width of its access, and the contents that a Sleep left fit the
-- kinds of the data names
abbrev pub IsWord : ContentKinds → Event → Type 0
IsWord kinds (Read access value) = value < 2 ^ access.width
IsWord kinds (Slept milliseconds (Some left)) = are_fitting left kinds ≡ true
IsWord kinds event = Unit {0}

-- every answer fits
pub record AreWords (kinds : ContentKinds) (log : List Event) : Type 0 where
  pub each : (i : ℕ) (event : Event) → slice_get log i ≡ Some event → IsWord kinds event

-- whether two accesses are of the same unit
abbrev pub same_access : Access → Access → Bool
same_access a b = (a.space == b.space) && ((a.address == b.address) && (a.width == b.width))

-- what a world keeps: the events so far, and how many calls it refused
pub record Log : Type 0 where
  pub events : List Event
  pub refusals : ℕ
