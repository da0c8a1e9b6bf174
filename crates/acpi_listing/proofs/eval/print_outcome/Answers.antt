use Rattle.aml_namespace.specs.Shows.{shown}
use Rattle.aml_regions.specs.EventViews.{events_of}
use Rattle.acpi_listing.specs.Commands.{evaluation_text, outcome_status}
use Rattle.acpi_listing.proofs.Chains.{half_told, told}
use Rattle.acpi_listing.proofs.eval.print_outcome.Goals as goal

pub returns-in_err-list_ended : goal.returns-in_err-list_ended
returns-in_err-list_ended g c =
    half_told tt _ _ (evaluation_text (shown c.args.namespace.now).entries (c.args.outcome.now, events_of c.args.events.now)) (outcome_status c.args.outcome.now) _ c.from_residual.result c.from_residual.ensures.1 c.in_err-list_ended.ensures

pub returns : goal.returns
returns g c =
    told tt _ _ (evaluation_text (shown c.args.namespace.now).entries (c.args.outcome.now, events_of c.args.events.now)) (outcome_status c.args.outcome.now) c.status_of.result c.status_of.ensures c.in_ok-list_ended.ensures
