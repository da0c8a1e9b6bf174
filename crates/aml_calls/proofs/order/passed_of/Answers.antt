use Rattle.std.proofs.Common.{◌∙◌, sym, arith}
use Rattle.aml_calls.proofs.GoingOn.{all_placed_more, none_past}
use Rattle.aml_calls.proofs.order.passed_of.Goals as goal

pub row-preserved : goal.row-preserved
row-preserved c = λ e. all_placed_more c.args.marks.now c.args.row.now c.row.at _ c.row-test.true (c.row.invariant e) (sym c.is_placed.ensures ∙ c.if-not-is_placed.false)

pub returns-clause-next : goal.returns-clause-next
returns-clause-next c = λ callee e. absurd (none_past c.args.row.now c.row.at callee (omega (arith, c.row-test.false)) e)
