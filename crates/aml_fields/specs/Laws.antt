-- Laws of single events.
use Rattle.std.specs.Prelude.{◌≡◌, ℕ, suc, List}
use Rattle.aml_regions.specs.Events.{Event}
use Rattle.aml_meaning.specs.State.{State, with_steps, Goes, Spent}
use Rattle.aml_meaning.specs.Parts.{make_event, with_event}

-- an event that needs no answer takes one step and stands behind the others, whatever the script
-- has
abbrev pub EventIsMade : Type 0
EventIsMade = (event : Event) (n : ℕ) (script : List Event) (s : State) →
    s.steps ≡ suc n → (make_event event).run script s ≡ Goes tt (with_event (with_steps s n) event)

-- without a step it is not made
abbrev pub NoEventWithoutStep : Type 0
NoEventWithoutStep = (event : Event) (script : List Event) (s : State) → s.steps ≡ 0 →
    (make_event event).run script s ≡ Spent s
