use Rattle.aml_externals.proofs.Twice.{nothing_changes, none_is_found}
use Rattle.aml_externals.proofs.laws.opening_is_done_once.Goals as goal

pub returns-clause-again : goal.returns-clause-again
returns-clause-again c = nothing_changes

pub returns-clause-none : goal.returns-clause-none
returns-clause-none c = none_is_found
