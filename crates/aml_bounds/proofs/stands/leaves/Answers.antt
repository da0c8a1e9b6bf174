use Rattle.std.proofs.Common.{◌∙◌, ◌-◌, sym, length, arith}
use Rattle.aml_bounds.proofs.OneByOne.{last_leaves}
use Rattle.aml_bounds.proofs.stands.leaves.Goals as goal

pub returns-in-len1-up : goal.returns-in-len1-up
returns-in-len1-up c =
    let ts = c.args.body.now in
    c.is_leave.ensures ∙ sym (last_leaves ts (length ts - 1) c.last-item.result (omega (arith, c.in-len1-up.len_at_least)) c.last-item.is)
