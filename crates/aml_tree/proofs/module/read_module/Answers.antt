use Rattle.aml_tree.proofs.Bodies.{module_reads}
use Rattle.aml_tree.proofs.module.read_module.Goals as goal

pub returns : goal.returns
returns c = module_reads c.args.bytes.now c.read_definitions.result c.read_definitions.ensures
