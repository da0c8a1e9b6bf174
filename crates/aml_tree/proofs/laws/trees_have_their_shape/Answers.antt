use Rattle.aml_tree.proofs.Shaped.{module_shaped, body_shaped}
use Rattle.aml_tree.proofs.laws.trees_have_their_shape.Goals as goal

pub returns-clause-module_shape : goal.returns-clause-module_shape
returns-clause-module_shape c = module_shaped

pub returns-clause-body_shape : goal.returns-clause-body_shape
returns-clause-body_shape c = body_shaped
