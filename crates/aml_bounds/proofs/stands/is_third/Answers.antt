use Rattle.std.proofs.Common.{sym, arith}
use Rattle.aml_bounds.specs.Shapes.{acts, is_local}
use Rattle.aml_bounds.proofs.OneByOne.{not_three}
use Rattle.aml_bounds.proofs.stands.is_third.Goals as goal

pub returns-in-empty : goal.returns-in-empty
returns-in-empty c = sym (not_three (acts (is_local c.args.local)) c.args.parts.now (λ e. omega (arith, e, c.in-empty.len_below)))

pub returns-in-empty-2 : goal.returns-in-empty-2
returns-in-empty-2 c = sym (not_three (acts (is_local c.args.local)) c.args.parts.now (λ e. omega (arith, e, c.in-empty.len_at_least)))
