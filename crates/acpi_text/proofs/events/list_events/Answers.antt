use Rattle.acpi_text.proofs.Listing.{more_listed, none_listed, stopped_listed}
use Rattle.acpi_text.proofs.NameLemmas.{next_held}
use Rattle.acpi_text.proofs.EventLemmas.{told_line, all_told}
use Rattle.aml_namespace.specs.Shows.{shown}
use Rattle.acpi_text.proofs.events.list_events.Goals as goal

pub loop-event-preserved : goal.loop-event-preserved
loop-event-preserved g c =
    let entries = (shown c.args.namespace.now).entries in
    let begins = next_held (told_line entries) c.args.events.now c.loop-event.event-index c.event-item.result c.loop-event-test.true c.event-item.is in
    more_listed _ _ begins c.loop-event.invariant c.in_ok-list_event.ensures

pub returns-in_err-list_event : goal.returns-in_err-list_event
returns-in_err-list_event g c =
    let entries = (shown c.args.namespace.now).entries in
    let begins = next_held (told_line entries) c.args.events.now c.loop-event.event-index c.event-item.result c.loop-event-test.true c.event-item.is in
    stopped_listed c.from_residual.result _ _ _ c.from_residual.ensures.0 begins c.loop-event.invariant c.in_err-list_event.ensures

pub loop-event-init : goal.loop-event-init
loop-event-init g c = none_listed (all_told (shown c.args.namespace.now).entries c.args.events.now)
