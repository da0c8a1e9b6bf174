use Rattle.std.proofs.Common.{◌∙◌, ◌*◌, ◌^◌, sym}
use Rattle.aml_kind_rules.proofs.Greatest.{capped_past, risen}
use Rattle.aml_kind_rules.proofs.numbers.raised.Goals as goal

pub returns-else-a-eq0 : goal.returns-else-a-eq0
returns-else-a-eq0 c =
    c.greatest.ensures
    ∙ sym (capped_past c.args.width (c.args.a * 2 ^ c.args.count) (risen c.args.a c.args.count c.if-a-eq0.false c.if-count-lt64.false))
