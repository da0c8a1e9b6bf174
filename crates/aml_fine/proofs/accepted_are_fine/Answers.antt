use Rattle.aml_fine.proofs.Accepted.{accepted_are_fine}
use Rattle.aml_fine.proofs.Narrow.{narrow_answers_fit}
use Rattle.aml_fine.proofs.accepted_are_fine.Goals as goal

pub returns-clause-fine : goal.returns-clause-fine
returns-clause-fine c = accepted_are_fine

pub returns-clause-narrow : goal.returns-clause-narrow
returns-clause-narrow c = narrow_answers_fit
