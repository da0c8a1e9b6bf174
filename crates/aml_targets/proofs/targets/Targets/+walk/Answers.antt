use Rattle.std.proofs.Common.{◌∙◌, List, sym, ap, arith}
use Rattle.std.specs.Prelude.{◌||◌}
use Rattle.aml_operators.specs.declared.term.Term.{Term}
use Rattle.aml_operators.specs.declared.term.Term.TheViews.{out-Term}
use Rattle.aml_operators.specs.Tree.{view, views}
use Rattle.aml_operators.proofs.Views.{view_out}
use Rattle.aml_namespace.proofs.Weights.{lighter_item}
use Rattle.aml_meaning.specs.Actions.{action}
use Rattle.aml_bounds.specs.Shapes.{assigns, assigns_in, outside_targets, targets}
use Rattle.aml_targets.proofs.Added.{adds_as, adds_both}
use Rattle.aml_targets.proofs.targets.Targets.+walk.Goals as goal

pub walk-returns : goal.walk-returns
walk-returns t c =
    let term = c.args.term.now in
    let op = (out-Term term).op in
    let parts = c.as_slice-parts.result.now in
    let old = c.args.self.now in
    let mid = c.mark_targets.new.self in
    let new = c.walk_all.new.self in
    adds_as (λ is. (targets is (action op) (views parts) || outside_targets is (action op) op (views parts)) || assigns_in is (views parts)) (λ is. assigns is (view term)) old new (λ is. ap (λ (ts : List Term). (targets is (action op) (views ts) || outside_targets is (action op) op (views ts)) || assigns_in is (views ts)) c.as_slice-parts.ensures.value ∙ sym (ap (assigns is) (view_out term))) (adds_both (λ is. targets is (action op) (views parts) || outside_targets is (action op) op (views parts)) (λ is. assigns_in is (views parts)) old mid new c.mark_targets.ensures c.walk_all.ensures)

pub walk_all-walk-requires : goal.walk_all-walk-requires
walk_all-walk-requires t c =
    let less = lighter_item c.args.terms.now c.terms.term-index c.term-item.result c.terms-test.true c.term-item.is in
    (omega (arith, less, c.decreases), tt)
