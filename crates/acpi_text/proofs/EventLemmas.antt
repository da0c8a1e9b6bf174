-- The lines of the program's events.
use Rattle.std.specs.Prelude.{◌≡◌, ℕ, List, [], ◌∷◌, ◌++◌}
use Rattle.std.specs.List.{flat_map}
use Rattle.std.proofs.Common.{refl, ap}
use Rattle.aml_objects.specs.Entries.{Entries}
use Rattle.aml_regions.specs.declared.event.Event as program
use Rattle.aml_regions.specs.EventViews.{event_of, events_of}
use Rattle.acpi_text.specs.Events.{event_line, events_text}

abbrev pub told_line : Entries → program.Event → List ℕ
told_line entries e = event_line entries (event_of e)

pub all_told : (entries : Entries) (events : List program.Event) → events_text entries (events_of events) ≡ flat_map (told_line entries) events
all_told entries [] = refl
all_told entries (e ∷ events) = ap (λ lines. told_line entries e ++ lines) (all_told entries events)
