use Rattle.aml_operators.specs.declared.row.Spot.TheVariants as spot
use Rattle.aml_tree.proofs.Heads.{head_there, no_head}
use Rattle.aml_tree.proofs.head.element_head.Goals as goal

pub returns-in-Ok-clause-is : goal.returns-in-Ok-clause-is
returns-in-Ok-clause-is c =
    head_there c.args.own spot.Element tt c.args.bytes.now c.args.at c.args.depth c.in-Ok.read c.in-Ok.ensures.gives

pub returns-in-Err-clause-is : goal.returns-in-Err-clause-is
returns-in-Err-clause-is c =
    no_head c.args.own spot.Element tt c.args.bytes.now c.args.at c.args.depth c.in-Err.field-0 c.in-Err.ensures.spare c.in-Err.ensures.gives
