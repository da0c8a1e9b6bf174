use Rattle.std.proofs.Common.{◌+◌, ◌∙◌, List, sym, ap, arith, drop}
use Rattle.aml_operators.specs.declared.term.Term.{Term}
use Rattle.aml_operators.specs.Tree.{view, views}
use Rattle.aml_operators.proofs.Views.{view_out}
use Rattle.aml_namespace.proofs.Weights.{lighter_item, weight, weights}
use Rattle.aml_bounds.specs.Shapes.{assigns, assigns_in, is_local}
use Rattle.aml_bounds.proofs.OneByOne.{first_holds, second_holds, views_at}
use Rattle.aml_bounds.proofs.stands.+assigns.Goals as goal

pub assigns-assigns_in-requires : goal.assigns-assigns_in-requires
assigns-assigns_in-requires t c =
    let whole = ap weight (view_out c.args.term.now) in
    let parts = ap (λ (ts : List Term). weights (views ts)) c.as_slice-parts.ensures.value in
    (omega (arith, whole, parts, c.decreases), tt)

pub assigns_in-assigns-requires : goal.assigns_in-assigns-requires
assigns_in-assigns-requires t c =
    let less = lighter_item c.args.terms.now c.terms.term-index c.term-item.result c.terms-test.true c.term-item.is in
    (omega (arith, less, c.decreases), tt)

pub assigns_in-returns-then-assigns : goal.assigns_in-returns-then-assigns
assigns_in-returns-then-assigns t c =
    let rest = assigns_in (is_local c.args.local) (views (drop (c.terms.term-index + 1) c.args.terms.now)) in
    sym (first_holds (assigns (is_local c.args.local) (view c.term-item.result)) rest (sym c.assigns.ensures ∙ c.if-assigns.true))
    ∙ sym (ap (assigns_in (is_local c.args.local)) (views_at c.args.terms.now c.terms.term-index c.term-item.result c.terms-test.true c.term-item.is))
    ∙ sym c.terms.invariant

pub assigns_in-terms-preserved : goal.assigns_in-terms-preserved
assigns_in-terms-preserved t c =
    let rest = assigns_in (is_local c.args.local) (views (drop (c.terms.term-index + 1) c.args.terms.now)) in
    c.terms.invariant
    ∙ ap (assigns_in (is_local c.args.local)) (views_at c.args.terms.now c.terms.term-index c.term-item.result c.terms-test.true c.term-item.is)
    ∙ second_holds (assigns (is_local c.args.local) (view c.term-item.result)) rest (sym c.assigns.ensures ∙ c.if-assigns.false)
