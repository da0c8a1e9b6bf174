use Rattle.aml_methods.proofs.HandedOn.{no_trees}
use Rattle.aml_methods.proofs.trees.Trees.new.Goals as goal

pub returns : goal.returns
returns c = λ ns. no_trees ns c.in_ok-bodies.bodies.items c.in_ok-bodies.ensures.none
