use Rattle.std.proofs.Common.{◌∙◌, ap}
use Rattle.aml_judged.specs.KindRules.{field_kind}
use Rattle.aml_findings.proofs.Wide.{narrow_told, wide_told}
use Rattle.aml_findings.proofs.finds.given.Goals as goal

pub returns-in-Int : goal.returns-in-Int
returns-in-Int g c = c.integer.ensures ∙ narrow_told c.in-Int.field-0 _ c.args.bits c.args.kind (c.in-Int.ensures (g.A.Shapes.numbered c.args.here.now) ∙ ap (λ w. field_kind w c.args.bits) c.width.ensures)

pub returns-in_default : goal.returns-in_default
returns-in_default g c = c.other_kind.ensures ∙ wide_told (g.A.Shapes.numbered c.args.here.now) c.field_kind.result (g.A.Around.around c.args.here.now).width c.args.bits c.args.kind c.in_default.not-Int (c.field_kind.ensures (g.A.Shapes.numbered c.args.here.now) ∙ ap (λ w. field_kind w c.args.bits) c.width.ensures)
