-- Events of the program, one more.
use Rattle.std.specs.Prelude.{◌≡◌, List, [], ◌∷◌, ◌++◌}
use Rattle.std.proofs.lemmas.List.{map-append}
use Rattle.aml_regions.specs.declared.event.Event as program
use Rattle.aml_regions.specs.EventViews.{event_of, events_of}

pub one_more : (events : List program.Event) (e : program.Event) → events_of (events ++ e ∷ []) ≡ events_of events ++ event_of e ∷ []
one_more events e = map-append event_of events (e ∷ [])
