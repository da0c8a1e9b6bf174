use Rattle.std.proofs.Common.{◌∙◌, ap, sym}
use Rattle.aml_judged.specs.KindRules as rule
use Rattle.aml_known.specs.Views.{kind_of}
use Rattle.aml_meaning.specs.declared.action.Conversion.TheVariants as conversion
use Rattle.aml_objects.specs.Widths.{bits_of}
use Rattle.aml_rules.specs.Tells.{place_of}
use Rattle.aml_kind_rules.proofs.sizes.converted_kind.Goals as goal

pub returns-in-ToInteger-Buf : goal.returns-in-ToInteger-Buf
returns-in-ToInteger-Buf c = λ shapes.
    let width = bits_of c.args.width in
    let op = place_of c.args.operator in
    let p = place_of c.args.operand in
    c.buffer_integer.ensures shapes
    ∙ sym (
    ap (λ f. rule.converted_kind width f op p (kind_of shapes c.args.kind)) c.in-ToInteger-Buf.is-0
    ∙ ap (λ k. rule.converted_kind width conversion.ToInteger op p (kind_of shapes k)) c.in-ToInteger-Buf.is-1
    )
