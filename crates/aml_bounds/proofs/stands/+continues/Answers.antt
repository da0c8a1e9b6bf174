use Rattle.std.proofs.Common.{◌+◌, ◌∙◌, List, sym, ap, arith, drop}
use Rattle.aml_operators.specs.declared.term.Term.{Term}
use Rattle.aml_operators.specs.declared.term.Term.TheViews.{out-Term}
use Rattle.aml_meaning.specs.Actions.{action}
use Rattle.aml_operators.specs.Tree.{view, views}
use Rattle.aml_operators.proofs.Views.{view_out}
use Rattle.aml_namespace.proofs.Weights.{lighter_item, weight, weights}
use Rattle.aml_bounds.specs.Shapes.{continues, continues_in}
use Rattle.aml_bounds.proofs.OneByOne.{first_holds, other_continues, second_holds, views_at}
use Rattle.aml_bounds.proofs.stands.+continues.Goals as goal

pub continues-continues_first-requires : goal.continues-continues_first-requires
continues-continues_first-requires t c =
    let whole = ap weight (view_out c.args.term.now) in
    let parts = ap (λ (ts : List Term). weights (views ts)) c.as_slice-parts.ensures.value in
    (omega (arith, whole, parts, c.decreases), tt)

pub continues-continues_in-requires : goal.continues-continues_in-requires
continues-continues_in-requires t c =
    let whole = ap weight (view_out c.args.term.now) in
    let parts = ap (λ (ts : List Term). weights (views ts)) c.as_slice-parts.ensures.value in
    (omega (arith, whole, parts, c.decreases), tt)

pub continues_first-continues-requires : goal.continues_first-continues-requires
continues_first-continues-requires t c =
    let less = lighter_item c.args.terms.now 0 c.test-item.result (omega (arith, c.in-len1-up.len_at_least)) c.test-item.is in
    (omega (arith, less, c.decreases), tt)

pub continues_in-continues-requires : goal.continues_in-continues-requires
continues_in-continues-requires t c =
    let less = lighter_item c.args.terms.now c.terms.term-index c.term-item.result c.terms-test.true c.term-item.is in
    (omega (arith, less, c.decreases), tt)

pub continues_in-returns-then-continues : goal.continues_in-returns-then-continues
continues_in-returns-then-continues t c =
    let rest = continues_in (views (drop (c.terms.term-index + 1) c.args.terms.now)) in
    sym (first_holds (continues (view c.term-item.result)) rest (sym c.continues.ensures ∙ c.if-continues.true))
    ∙ sym (ap continues_in (views_at c.args.terms.now c.terms.term-index c.term-item.result c.terms-test.true c.term-item.is))
    ∙ sym c.terms.invariant

pub continues_in-terms-preserved : goal.continues_in-terms-preserved
continues_in-terms-preserved t c =
    let rest = continues_in (views (drop (c.terms.term-index + 1) c.args.terms.now)) in
    c.terms.invariant
    ∙ ap continues_in (views_at c.args.terms.now c.terms.term-index c.term-item.result c.terms-test.true c.term-item.is)
    ∙ second_holds (continues (view c.term-item.result)) rest (sym c.continues.ensures ∙ c.if-continues.false)

pub continues-returns-in_default : goal.continues-returns-in_default
continues-returns-in_default t c =
    let term = out-Term c.args.term.now in
    c.continues_in.ensures
    ∙ ap (λ (ts : List Term). continues_in (views ts)) c.as_slice-parts.ensures.value
    ∙ sym (other_continues (action term.op) (λ e. c.in_default.not-Continue (c.action_of.ensures ∙ e)) (λ e. c.in_default.not-While (c.action_of.ensures ∙ e)) (views term.parts.items))
    ∙ sym (ap continues (view_out c.args.term.now))
