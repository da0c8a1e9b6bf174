use Rattle.std.proofs.Common.{subst}
use Rattle.aml_values.specs.Values.{Elements}
use Rattle.aml_values.specs.Views.{view}
use Rattle.aml_meaning.specs.Elements as rule
use Rattle.aml_rules.specs.Tells.{Obeys, place_of}
use Rattle.aml_rules.proofs.Numbered.{numbered}
use Rattle.aml_rules.proofs.elements.element_numbered.Goals as goal

pub returns : goal.returns
returns c =
    subst (λ (es : Elements). Obeys view c.element_there.result (rule.element_read (place_of c.args.operator) (rule.element_numbered es c.args.i))) c.elements.ensures (rw (numbered c.elements.result.now c.args.i) c.element_there.ensures)
