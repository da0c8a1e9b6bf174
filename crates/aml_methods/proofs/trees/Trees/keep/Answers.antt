use Rattle.aml_methods.proofs.HandedOn.{one_tree}
use Rattle.aml_methods.proofs.trees.Trees.keep.Goals as goal

pub returns-then-size-self : goal.returns-then-size-self
returns-then-size-self c = λ ns are read. rw c.put.ensures (one_tree ns c.args.self.now.bodies.items c.args.id.0 c.args.body read are)
