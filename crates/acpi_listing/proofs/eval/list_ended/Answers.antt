use Rattle.std.proofs.Common.{[], refl}
use Rattle.std.proofs.KnownBytes.{Appends-nil}
use Rattle.aml_namespace.specs.Shows.{shown}
use Rattle.acpi_text.specs.Events.{events_text}
use Rattle.aml_regions.specs.EventViews.{events_of}
use Rattle.acpi_text.specs.Outcome.{outcome_line}
use Rattle.acpi_text.proofs.Listing.{lists_then, stopped}
use Rattle.acpi_listing.proofs.eval.list_ended.Goals as goal

pub returns-in_err-list_events : goal.returns-in_err-list_events
returns-in_err-list_events g c =
    let entries = (shown c.args.namespace.now).entries in
    stopped _ c.from_residual.result _ _ _ [] (events_text entries (events_of c.args.events.now)) (outcome_line entries c.args.outcome.now) _
    c.from_residual.ensures.0 (Appends-nil _) c.in_err-list_events.ensures refl

pub returns : goal.returns
returns g c =
    let entries = (shown c.args.namespace.now).entries in
    lists_then c.list_evaluation.result _ _ _ (events_text entries (events_of c.args.events.now)) (outcome_line entries c.args.outcome.now) c.in_ok-list_events.ensures c.list_evaluation.ensures
