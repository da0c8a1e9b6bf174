use Rattle.aml_meaning.proofs.InOrder.{terms_take_a_step, terms_want_a_step}
use Rattle.aml_meaning.proofs.law.terms_take_a_step.Goals as goal

pub returns-clause-wanted : goal.returns-clause-wanted
returns-clause-wanted c = terms_want_a_step

pub returns-clause-taken : goal.returns-clause-taken
returns-clause-taken c = terms_take_a_step
