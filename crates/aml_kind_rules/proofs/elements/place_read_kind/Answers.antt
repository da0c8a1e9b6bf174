use Rattle.std.proofs.Common.{◌<◌, ◌∙◌, ap, arith}
use Rattle.aml_kinds.specs.Kinds.{places}
use Rattle.aml_judged.specs.KindRules as rule
use Rattle.aml_rules.specs.Tells.{place_of}
use Rattle.aml_kind_rules.proofs.Greatest.{below_inside}
use Rattle.aml_kind_rules.proofs.elements.place_read_kind.Goals as goal

pub returns : goal.returns
returns g c =
    let numbered = g.S.Shapes.numbered c.args.shapes.now in
    let op = place_of c.args.operator in
    let count = places (numbered c.args.shape.0) in
    let read = rule.element_read_kind op (rule.place_led (numbered c.args.shape.0) c.args.number) in
    let lt : c.args.greatest < count = omega (arith, c.if-branch.false, c.in_ok-places.ensures) in
    c.or_stop.ensures numbered (rule.inside op c.args.greatest count read) (
    c.element_read_kind.ensures numbered
    ∙ ap (rule.element_read_kind op) c.in_ok-element.ensures
    ∙ below_inside op c.args.greatest count read lt
    )
