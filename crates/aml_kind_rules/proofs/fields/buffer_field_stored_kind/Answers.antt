use Rattle.std.proofs.Common.{◌∙◌, Err, ap}
use Rattle.std.proofs.lemmas.Result.{err_from_is_err_and}
use Rattle.aml_judged.specs.Judged.{then_rule}
use Rattle.aml_judged.specs.KindRules as rule
use Rattle.aml_known.specs.Views.{kind_of}
use Rattle.aml_objects.specs.Widths.{bits_of}
use Rattle.aml_rules.specs.Tells.{place_of}
use Rattle.aml_kind_rules.specs.Tells.{told}
use Rattle.aml_kind_rules.proofs.fields.buffer_field_stored_kind.Goals as goal

pub returns-in_err-source_kind : goal.returns-in_err-source_kind
returns-in_err-source_kind c = λ shapes.
    let is = err_from_is_err_and c.from_residual.result c.from_residual.ensures.1 in
    ap (told {X = Unit {0}} {V = Unit {0}} (λ u. u)) (is.1 ∙ ap Err is.2)
    ∙ ap (λ r. then_rule r (λ u. rule.given_kind (bits_of c.args.width) (place_of c.args.at) c.args.field.bits (kind_of shapes c.args.kind))) (c.in_err-source_kind.ensures shapes)

pub returns : goal.returns
returns c = λ shapes.
    c.given_kind.ensures shapes
    ∙ ap (λ r. then_rule r (λ u. rule.given_kind (bits_of c.args.width) (place_of c.args.at) c.args.field.bits (kind_of shapes c.args.kind))) (c.in_ok-source_kind.ensures shapes)
