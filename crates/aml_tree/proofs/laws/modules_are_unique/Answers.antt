use Rattle.aml_tree.proofs.Bodies.{one_module}
use Rattle.aml_tree.proofs.laws.modules_are_unique.Goals as goal

pub returns : goal.returns
returns c = one_module
