use Rattle.aml_judged.proofs.Fine.{fine_parts}
use Rattle.aml_judged.proofs.evaluations_count_down.Goals as goal

pub returns-clause-statements : goal.returns-clause-statements
returns-clause-statements c = fine_parts _ _

pub returns-clause-values : goal.returns-clause-values
returns-clause-values c = fine_parts _ _

pub returns-clause-effects : goal.returns-clause-effects
returns-clause-effects c = fine_parts _ _
