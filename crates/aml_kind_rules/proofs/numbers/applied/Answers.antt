use Rattle.std.proofs.Common.{◌∙◌, ap, sym}
use Rattle.aml_judged.specs.KindRules.{applied}
use Rattle.aml_objects.specs.Widths.{bits_of}
use Rattle.aml_kind_rules.proofs.numbers.applied.Goals as goal

pub returns-in-ShiftLeft : goal.returns-in-ShiftLeft
returns-in-ShiftLeft c =
    c.raised_by.ensures c.args.b
    ∙ sym (ap (λ f. applied (bits_of c.args.width) f c.args.a c.args.b c.args.number) c.in-ShiftLeft.is)

pub returns-in-ShiftRight : goal.returns-in-ShiftRight
returns-in-ShiftRight c =
    c.dropped_by.ensures (bits_of c.args.width) c.args.b
    ∙ sym (ap (λ f. applied (bits_of c.args.width) f c.args.a c.args.b c.args.number) c.in-ShiftRight.is)

pub returns-in-Mod : goal.returns-in-Mod
returns-in-Mod c =
    c.left_by.ensures c.args.b
    ∙ sym (ap (λ f. applied (bits_of c.args.width) f c.args.a c.args.b c.args.number) c.in-Mod.is)
