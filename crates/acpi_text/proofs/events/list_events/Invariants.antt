use Rattle.std.proofs.Common.{drop}
use Rattle.std.specs.List.{flat_map}
use Rattle.acpi_text.specs.Events.{events_text}
use Rattle.acpi_text.proofs.EventLemmas.{told_line}
use Rattle.acpi_text.proofs.Listing.{Listed}
use Rattle.aml_regions.specs.EventViews.{events_of}
use Rattle.aml_namespace.specs.Shows.{shown}
use Rattle.acpi_text.proofs.events.list_events.Given as goal

-- the lines before were appended, and those of the other events are left
abbrev pub invariant-loop-event : goal.invariant-loop-event
invariant-loop-event g l =
    let entries = (shown l.namespace).entries in
    Listed (events_text entries (events_of l.events)) (flat_map (told_line entries) (drop l.event-index l.events))
    (g.W.Write.contents l.initial.out) (g.W.Write.contents l.out)
