use Rattle.aml_integers.proofs.Order as laws
use Rattle.aml_integers.proofs.laws.marks_decide.Goals as goal

pub returns-clause-steps : goal.returns-clause-steps
returns-clause-steps c = laws.marks_decide

pub returns-clause-done : goal.returns-clause-done
returns-clause-done c = laws.done_decides
