use Rattle.std.proofs.Common.{◌∙◌, ap, sym}
use Rattle.aml_judged.specs.KindRules as rule
use Rattle.aml_known.specs.Views.{kind_of}
use Rattle.aml_known.specs.declared.known.Known.{Known}
use Rattle.aml_rules.specs.Tells.{place_of}
use Rattle.aml_kind_rules.proofs.elements.led_kind.Goals as goal

pub returns-in-Buf : goal.returns-in-Buf
returns-in-Buf g c =
    let numbered = g.S.Shapes.numbered c.args.shapes.now in
    let led = λ (j : Known). rule.led_kind (place_of c.args.operator) (place_of c.args.first) (kind_of numbered j) (place_of c.args.second) (kind_of numbered c.args.k) c.args.number in
    c.or_stop.ensures numbered (led c.args.j) (c.byte_led_kind.ensures numbered ∙ sym (ap led c.in-Buf.is))

pub returns-in-Str : goal.returns-in-Str
returns-in-Str g c =
    let numbered = g.S.Shapes.numbered c.args.shapes.now in
    let led = λ (j : Known). rule.led_kind (place_of c.args.operator) (place_of c.args.first) (kind_of numbered j) (place_of c.args.second) (kind_of numbered c.args.k) c.args.number in
    c.or_stop-in-Str.ensures numbered (led c.args.j) (c.byte_led_kind-in-Str.ensures numbered ∙ sym (ap led c.in-Str.is))
