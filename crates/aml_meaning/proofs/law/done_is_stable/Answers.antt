use Rattle.aml_meaning.proofs.Stable.{done_stays, error_stays}
use Rattle.aml_meaning.proofs.law.done_is_stable.Goals as goal

pub returns-clause-done : goal.returns-clause-done
returns-clause-done c = done_stays

pub returns-clause-error : goal.returns-clause-error
returns-clause-error c = error_stays
