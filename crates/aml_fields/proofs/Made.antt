-- Events that need no answer.
use Rattle.std.proofs.Common.{refl}
use Rattle.aml_meaning.specs.Parts.{make_event, paid}
use Rattle.aml_fields.specs.Laws.{EventIsMade, NoEventWithoutStep}

pub event_is_made : EventIsMade
unfolding make_event paid
event_is_made event n script s left = rw left refl

pub no_event_without_step : NoEventWithoutStep
unfolding make_event paid
no_event_without_step event script s left = rw left refl
