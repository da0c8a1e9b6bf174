use Rattle.std.proofs.Common.{◌+◌, ◌∙◌, List, sym, ap, arith, drop}
use Rattle.std.specs.Option.{option_or}
use Rattle.aml_operators.specs.declared.term.Term.{Term}
use Rattle.aml_operators.specs.declared.term.Term.TheViews.{out-Term}
use Rattle.aml_operators.specs.Tree.{views}
use Rattle.aml_namespace.proofs.Weights.{weights}
use Rattle.aml_contents.specs.BodyData.{computed_size, first_computed}
use Rattle.aml_contents.proofs.BodyData.{computed_from, lighter_parts, none_first, some_first}
use Rattle.aml_contents.proofs.bodies.+computed.Goals as goal

pub first_computed-computed_size-from-requires : goal.first_computed-computed_size-from-requires
first_computed-computed_size-from-requires t c =
    let less = lighter_parts c.args.terms.now c.terms.term-index c.term-item.result c.terms-test.true c.term-item.is in
    let parts = ap (λ (ts : List Term). weights (views ts)) c.deref.ensures.value in
    (omega (arith, less, parts, c.decreases), tt)

pub first_computed-returns-then-is_some : goal.first_computed-returns-then-is_some
first_computed-returns-then-is_some t c =
    let term = out-Term c.term-item.result in
    let rest = first_computed (views (drop (c.terms.term-index + 1) c.args.terms.now)) in
    let found = c.computed_size-from.ensures ∙ ap (λ (ts : List Term). computed_size term.op term.at (views ts)) c.deref.ensures.value in
    some_first c.computed_size-from.result rest (sym c.is_some.ensures ∙ c.if-is_some.true)
    ∙ ap (λ o. option_or o rest) found
    ∙ sym (computed_from c.args.terms.now c.terms.term-index c.term-item.result c.terms-test.true c.term-item.is)
    ∙ sym c.terms.invariant

pub first_computed-terms-preserved : goal.first_computed-terms-preserved
first_computed-terms-preserved t c =
    let term = out-Term c.term-item.result in
    let rest = first_computed (views (drop (c.terms.term-index + 1) c.args.terms.now)) in
    let found = c.computed_size-from.ensures ∙ ap (λ (ts : List Term). computed_size term.op term.at (views ts)) c.deref.ensures.value in
    c.terms.invariant
    ∙ computed_from c.args.terms.now c.terms.term-index c.term-item.result c.terms-test.true c.term-item.is
    ∙ ap (λ o. option_or o rest) (sym found)
    ∙ none_first c.computed_size-from.result rest (sym c.is_some.ensures ∙ c.if-is_some.false)
