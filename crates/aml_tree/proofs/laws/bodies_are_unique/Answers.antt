use Rattle.aml_tree.proofs.Bodies.{one_body}
use Rattle.aml_tree.proofs.laws.bodies_are_unique.Goals as goal

pub returns : goal.returns
returns c = one_body
