use Rattle.std.proofs.Common.{◌+◌, ◌∙◌, List, sym, ap}
use Rattle.std.proofs.lemmas.List.{take_rest}
use Rattle.std.specs.Prelude.{not}
use Rattle.aml_operators.specs.declared.term.Term.{Term}
use Rattle.aml_operators.specs.declared.term.Term.TheViews.{out-Term}
use Rattle.aml_operators.specs.Tree.{views}
use Rattle.aml_objects.specs.Widths.{bits_of}
use Rattle.aml_meaning.specs.Actions.{action}
use Rattle.aml_bounds.specs.Loops.{moves_of}
use Rattle.aml_bounds.specs.Shapes.{assigns_in, is_local}
use Rattle.aml_bounds.proofs.OneByOne.{blocked_first, moved_first, passed_first}
use Rattle.aml_bounds.proofs.shape.steps.Goals as goal

pub returns-then-moves : goal.returns-then-moves
returns-then-moves c =
    let t = c.index-body-i.result in
    let moves = moves_of (bits_of c.args.width) c.args.step in
    let moved = c.moves.ensures ∙ ap (λ (ts : List Term). moves c.args.local (action (out-Term t).op) (views ts)) c.deref.ensures.value in
    ap not (c.assigns_in.ensures ∙ ap (λ (ts : List Term). assigns_in (is_local c.args.local) (views ts)) (take_rest c.args.body.now (c.statements.i + 1)))
    ∙ sym (moved_first moves c.args.local c.args.body.now c.statements.i t c.statements-test.true c.index-body-i.is (sym moved ∙ c.if-moves.true))
    ∙ sym c.statements.invariant

pub returns-then-touches : goal.returns-then-touches
returns-then-touches c =
    let t = c.index-body-i.result in
    let moves = moves_of (bits_of c.args.width) c.args.step in
    let moved = c.moves.ensures ∙ ap (λ (ts : List Term). moves c.args.local (action (out-Term t).op) (views ts)) c.deref.ensures.value in
    sym (blocked_first moves c.args.local c.args.body.now c.statements.i t c.statements-test.true c.index-body-i.is (sym moved ∙ c.if-moves.false) (sym c.touches.ensures ∙ c.if-touches.true))
    ∙ sym c.statements.invariant

pub statements-preserved : goal.statements-preserved
statements-preserved c =
    let t = c.index-body-i.result in
    let moves = moves_of (bits_of c.args.width) c.args.step in
    let moved = c.moves.ensures ∙ ap (λ (ts : List Term). moves c.args.local (action (out-Term t).op) (views ts)) c.deref.ensures.value in
    c.statements.invariant
    ∙ passed_first moves c.args.local c.args.body.now c.statements.i t c.statements-test.true c.index-body-i.is (sym moved ∙ c.if-moves.false) (sym c.touches.ensures ∙ c.if-touches.false)
