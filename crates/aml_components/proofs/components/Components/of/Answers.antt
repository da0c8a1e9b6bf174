use Rattle.aml_components.proofs.Found.{are_components}
use Rattle.aml_components.proofs.components.Components.of.Goals as goal

pub returns-in-Ok : goal.returns-in-Ok
returns-in-Ok c = are_components c.args.pairs.now _ c.in-Some.ensures _ c.in-Ok.ensures
