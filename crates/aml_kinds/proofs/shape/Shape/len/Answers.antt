use Rattle.std.proofs.Common.{arith}
use Rattle.std.proofs.lemmas.Grind.{common_steps}
use Rattle.aml_kinds.proofs.Shapes.{places-shape_of}
use Rattle.aml_kinds.proofs.shape.Shape.len.Goals as goal

pub returns : goal.returns
returns c = grind (arith, common_steps, places-shape_of c.self.inside.places.items)
