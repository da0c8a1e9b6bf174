use Rattle.aml_fine.proofs.Lent.{loops_are_fine}
use Rattle.aml_fine.proofs.Steps.{test_takes}
use Rattle.aml_fine.proofs.loops_are_fine.Goals as goal

pub returns-clause-turns : goal.returns-clause-turns
returns-clause-turns c = loops_are_fine

pub returns-clause-tests : goal.returns-clause-tests
returns-clause-tests c = test_takes
