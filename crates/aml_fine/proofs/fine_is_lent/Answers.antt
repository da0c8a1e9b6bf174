use Rattle.aml_fine.proofs.Lent.{fine_lends}
use Rattle.aml_fine.proofs.fine_is_lent.Goals as goal

pub returns-clause-statements : goal.returns-clause-statements
returns-clause-statements c = fine_lends _ _

pub returns-clause-values : goal.returns-clause-values
returns-clause-values c = fine_lends _ _

pub returns-clause-numbers : goal.returns-clause-numbers
returns-clause-numbers c = fine_lends _ _

pub returns-clause-arguments : goal.returns-clause-arguments
returns-clause-arguments c = fine_lends _ _

pub returns-clause-effects : goal.returns-clause-effects
returns-clause-effects c = fine_lends _ _
