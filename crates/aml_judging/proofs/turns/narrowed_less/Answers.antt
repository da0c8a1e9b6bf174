use Rattle.std.proofs.Common.{sym}
use Rattle.aml_meaning.specs.declared.action.Comparison.TheVariants as comparison
use Rattle.aml_judging.proofs.Narrow.{narrowed_few, narrowed_many}
use Rattle.aml_judging.proofs.turns.narrowed_less.Goals as goal

pub returns-in_default : goal.returns-in_default
returns-in_default g c = λ lists. sym (narrowed_few (g.A.Around.around c.args.here.now) comparison.LLess c.args.parts.now _ c.in_default.len_below)

pub returns-in_default-2 : goal.returns-in_default-2
returns-in_default-2 g c = λ lists. sym (narrowed_many (g.A.Around.around c.args.here.now) comparison.LLess c.args.parts.now _ c.in_default.len_at_least)
