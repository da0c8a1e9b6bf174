use Rattle.std.proofs.Common.{◌≡◌, length, sym, vec_len}
use Rattle.aml_operators.specs.Tree.{view}
use Rattle.aml_operators.specs.declared.term.Term.TheViews.{out-Term}
use Rattle.aml_operators.proofs.Views.{view_out}
use Rattle.aml_meaning.specs.declared.action.Comparison.TheVariants as comparison
use Rattle.aml_judging.proofs.Narrow.{none_are, narrowed_nested}
use Rattle.aml_judging.proofs.turns.narrowed_below.Goals as goal

pub returns-then-is_empty : goal.returns-then-is_empty
returns-then-is_empty g c = λ lists.
    let len : vec_len (out-Term c.args.what.now).parts ≡ length (out-Term c.args.what.now).parts.items = (out-Term c.args.what.now).parts.ok.0 in
    let alone = none_are (vec_len (out-Term c.args.what.now).parts) (out-Term c.args.what.now).parts.items len c.if-is_empty.ensures in
    rw (view_out c.args.what.now, alone, ← c.action_of.ensures, ← c.width.ensures, ← c.number_of.ensures) (c.narrowed_by.ensures (g.A.Around.around c.args.here.now) (g.A.Shapes.numbered c.args.here.now) lists)

pub returns-else-is_empty : goal.returns-else-is_empty
returns-else-is_empty g c = λ lists.
    let len : vec_len (out-Term c.args.what.now).parts ≡ length (out-Term c.args.what.now).parts.items = (out-Term c.args.what.now).parts.ok.0 in
    sym (narrowed_nested (g.A.Around.around c.args.here.now) comparison.LLess (view c.args.what.now) _ (out-Term c.args.what.now).op (out-Term c.args.what.now).at (out-Term c.args.what.now).end (vec_len (out-Term c.args.what.now).parts) (out-Term c.args.what.now).parts.items (view c.args.limit.now) (view_out c.args.what.now) len c.if-is_empty.ensures)
