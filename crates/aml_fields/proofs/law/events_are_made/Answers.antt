use Rattle.aml_fields.proofs.Made.{event_is_made, no_event_without_step}
use Rattle.aml_fields.proofs.law.events_are_made.Goals as goal

pub returns-clause-made : goal.returns-clause-made
returns-clause-made c = event_is_made

pub returns-clause-not_made : goal.returns-clause-not_made
returns-clause-not_made c = no_event_without_step
