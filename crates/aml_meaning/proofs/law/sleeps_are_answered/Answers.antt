use Rattle.aml_meaning.proofs.UnitReads.{sleep_is_answered, other_is_no_sleep}
use Rattle.aml_meaning.proofs.law.sleeps_are_answered.Goals as goal

pub returns-clause-answered : goal.returns-clause-answered
returns-clause-answered c = sleep_is_answered

pub returns-clause-other : goal.returns-clause-other
returns-clause-other c = other_is_no_sleep
