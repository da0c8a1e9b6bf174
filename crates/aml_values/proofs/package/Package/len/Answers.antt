use Rattle.std.proofs.Common.{arith}
use Rattle.std.proofs.lemmas.Grind.{common_steps}
use Rattle.aml_values.proofs.Elements.{count-elements_of}
use Rattle.aml_values.proofs.package.Package.len.Goals as goal

pub returns : goal.returns
returns c = grind (arith, common_steps, count-elements_of c.self.inside.elements.items)
