-- Events of the program as events.
use Rattle.std.specs.Prelude.{List, map}
use Rattle.std.specs.Option.{option_map}
use Rattle.aml_contents.specs.Held.{contents}
use Rattle.aml_regions.specs.declared.event.Event as program
use Rattle.aml_regions.specs.declared.event.Event.TheVariants as happened
use Rattle.aml_regions.specs.Events.{Event, Read, Written, Notified, Slept, Stalled}

-- the event that a program's event is
abbrev pub event_of : program.Event → Event
event_of (happened.Read access value) = Read access value
event_of (happened.Written access value) = Written access value
event_of (happened.Notified object value) = Notified object value
event_of (happened.Slept milliseconds left) = Slept milliseconds (option_map contents left)
event_of (happened.Stalled microseconds) = Stalled microseconds

abbrev pub events_of : List program.Event → List Event
events_of events = map event_of events
