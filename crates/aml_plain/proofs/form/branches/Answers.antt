use Rattle.std.proofs.Common.{sym, ◌∙◌}
use Rattle.aml_plain.proofs.Branches.{splits_with, splits_without, shaped_splits}
use Rattle.aml_plain.proofs.form.branches.Goals as goal

pub returns-then-is_else-clause-split : goal.returns-then-is_else-clause-split
returns-then-is_else-clause-split c = rw c.deref.ensures.value (splits_with c.args.parts.now c.last-item.result c.in-len1-up.len_at_least c.last-item.is c.requires (sym c.is_else.ensures ∙ c.if-is_else.true))

pub returns-then-is_else-clause-shaped : goal.returns-then-is_else-clause-shaped
returns-then-is_else-clause-shaped c = rw c.deref.ensures.value (shaped_splits c.args.parts.now c.last-item.result c.in-len1-up.len_at_least c.last-item.is)

pub returns-else-is_else-clause-split : goal.returns-else-is_else-clause-split
returns-else-is_else-clause-split c = splits_without c.args.parts.now c.last-item.result c.in-len1-up.len_at_least c.last-item.is c.requires (sym c.is_else.ensures ∙ c.if-is_else.false)
