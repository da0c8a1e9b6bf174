use Rattle.aml_rules.proofs.Numbered.{numbered}
use Rattle.aml_machine.proofs.elements.element_in.Goals as goal

pub returns-in-Pkg : goal.returns-in-Pkg
returns-in-Pkg c = rw (c.in-Pkg.is, ← c.elements.ensures, numbered c.elements.result.now c.args.i) c.element_there.ensures
