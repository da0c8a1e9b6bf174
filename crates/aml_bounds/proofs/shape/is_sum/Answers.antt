use Rattle.std.proofs.Common.{sym, arith}
use Rattle.aml_objects.specs.Widths.{bits_of}
use Rattle.aml_bounds.proofs.OneByOne.{no_sum}
use Rattle.aml_bounds.proofs.shape.is_sum.Goals as goal

pub returns-in-empty : goal.returns-in-empty
returns-in-empty c = sym (no_sum (bits_of c.args.width) c.args.local c.args.parts.now (λ e. omega (arith, e, c.in-empty.len_below)))

pub returns-in-empty-2 : goal.returns-in-empty-2
returns-in-empty-2 c = sym (no_sum (bits_of c.args.width) c.args.local c.args.parts.now (λ e. omega (arith, e, c.in-empty.len_at_least)))
