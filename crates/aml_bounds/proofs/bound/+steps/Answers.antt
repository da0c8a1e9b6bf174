use Rattle.std.proofs.Common.{◌∙◌, ◌+◌, List, sym, ap, drop, arith}
use Rattle.std.proofs.lemmas.List.{take_rest}
use Rattle.aml_operators.specs.declared.term.Term.{Term}
use Rattle.aml_operators.specs.declared.term.Term.TheViews.{out-Term}
use Rattle.aml_operators.specs.Tree.{view, views}
use Rattle.aml_operators.proofs.Views.{view_out}
use Rattle.aml_namespace.proofs.Weights.{lighter_item, weight, weights}
use Rattle.aml_meaning.specs.Actions.{action}
use Rattle.aml_bounds.specs.declared.role.Role.TheVariants.{Operand}
use Rattle.aml_bounds.specs.Steps.{every_operand, held, index_steps, most_steps, read_role, roles_of, steps_as, steps_by, steps_from, target_steps, turned, written_role}
use Rattle.aml_bounds.proofs.Held.{block_end, block_ends, block_step, else_here, else_step, from_end, from_step, plain_steps, read_as, so_far_done, so_far_more, sum_both, sum_right, target_as, turned_held}
use Rattle.aml_meaning.specs.declared.action.Action.TheVariants as does
use Rattle.aml_bounds.proofs.OneByOne.{views_at}
use Rattle.aml_bounds.proofs.bound.+steps.Goals as goal

pub block_steps-returns-then-is_else : goal.block_steps-returns-then-is_else
block_steps-returns-then-is_else g t c =
    let here = g.C.Costs.knows c.args.costs.now in
    so_far_done c.statements.total _ _ (block_ends here c.args.statements.now c.statements.statement-index c.statement-item.result c.statements-test.true c.statement-item.is (sym c.is_else.ensures ∙ c.if-is_else.true)) c.statements.invariant

pub block_steps-operand_steps-steps-requires : goal.block_steps-operand_steps-steps-requires
block_steps-operand_steps-steps-requires g t c =
    let less = lighter_item c.args.statements.now c.statements.statement-index c.statement-item.result c.statements-test.true c.statement-item.is in
    λ κs within. (omega (arith, less, c.decreases), within)

pub block_steps-statements-preserved : goal.block_steps-statements-preserved
block_steps-statements-preserved g t c =
    let here = g.C.Costs.knows c.args.costs.now in
    so_far_more c.statements.total c.operand_steps-steps.result c.sum-total.result _ _ _ _ c.operand_steps-steps.ensures c.sum-total.ensures
    (block_step here c.args.statements.now c.statements.statement-index c.statement-item.result c.statements-test.true c.statement-item.is (sym c.is_else.ensures ∙ c.if-is_else.false)) c.statements.invariant

pub block_steps-returns : goal.block_steps-returns
block_steps-returns g t c = so_far_done c.statements.total _ _ (block_end (g.C.Costs.knows c.args.costs.now) c.statements.statement-index c.args.statements.now c.statements-test.false) c.statements.invariant

pub else_steps-parts_steps-requires : goal.else_steps-parts_steps-requires
else_steps-parts_steps-requires g t c =
    let less = lighter_item c.args.statements.now c.statements.statement-index c.statement-item.result c.statements-test.true c.statement-item.is in
    let whole = ap weight (view_out c.statement-item.result) in
    let parts = ap (λ (ts : List Term). weights (views ts)) c.as_slice.ensures.value in
    λ κs within. (omega (arith, less, whole, parts, c.decreases), within)

pub else_steps-returns-then-is_else : goal.else_steps-returns-then-is_else
else_steps-returns-then-is_else g t c =
    let here = g.C.Costs.knows c.args.costs.now in
    c.parts_steps.ensures
    ∙ ap (λ (ts : List Term). held (steps_from here every_operand 0 (views ts))) c.as_slice.ensures.value
    ∙ sym (ap held (else_here here c.args.statements.now c.statements.statement-index c.statement-item.result c.statements-test.true c.statement-item.is (sym c.is_else.ensures ∙ c.if-is_else.true)))
    ∙ sym (ap held c.statements.invariant)

pub else_steps-statements-preserved : goal.else_steps-statements-preserved
else_steps-statements-preserved g t c =
    let here = g.C.Costs.knows c.args.costs.now in
    c.statements.invariant
    ∙ else_step here c.args.statements.now c.statements.statement-index c.statement-item.result c.statements-test.true c.statement-item.is (sym c.is_else.ensures ∙ c.if-is_else.false)

pub parts_steps-part_steps-part-requires : goal.parts_steps-part_steps-part-requires
parts_steps-part_steps-part-requires g t c =
    let less = lighter_item c.args.parts.now c.parts.i c.index-parts-i.result c.parts-test.true c.index-parts-i.is in
    λ κs within. (omega (arith, less, c.decreases), within)

pub parts_steps-parts-preserved : goal.parts_steps-parts-preserved
parts_steps-parts-preserved g t c =
    let here = g.C.Costs.knows c.args.costs.now in
    so_far_more c.parts.total c.part_steps-part.result c.sum-total.result _ _ _ _ (c.part_steps-part.ensures ∙ ap (λ r. held (steps_as here r (view c.index-parts-i.result))) c.role_in.ensures) c.sum-total.ensures
    (from_step here (roles_of c.args.roles) c.parts.i c.args.parts.now c.index-parts-i.result c.parts-test.true c.index-parts-i.is) c.parts.invariant

pub parts_steps-returns : goal.parts_steps-returns
parts_steps-returns g t c = so_far_done c.parts.total _ _ (from_end (g.C.Costs.knows c.args.costs.now) (roles_of c.args.roles) c.parts.i c.args.parts.now c.parts-test.false) c.parts.invariant

pub steps_by-returns-in-If : goal.steps_by-returns-in-If
steps_by-returns-in-If g t c =
    c.branch_steps.ensures c.args.at ∙ sym (ap (λ a. held (steps_by (g.C.Costs.knows c.args.costs.now) a c.args.at (views c.args.parts.now))) c.in-If.is)

pub steps_by-returns-in_default : goal.steps_by-returns-in_default
steps_by-returns-in_default g t c =
    c.plain_steps.ensures ∙ sym (ap held (plain_steps (g.C.Costs.knows c.args.costs.now) c.args.action c.in_default.not-If c.in_default.not-While c.args.at (views c.args.parts.now)))

pub written_steps-returns : goal.written_steps-returns
written_steps-returns g t c =
    let here = g.C.Costs.knows c.args.costs.now in
    let term = out-Term c.args.term.now in
    c.sum.ensures
    ∙ ap (λ n. held (n + c.parts_steps-behind.result)) (c.target_steps.ensures ∙ ap (λ a. held (target_steps here a term.at)) c.action_of-action.ensures)
    ∙ ap (λ n. held (held (target_steps here (action term.op) term.at) + n)) (c.parts_steps-behind.ensures ∙ ap (λ a. held (steps_from here (written_role a) 0 (views c.as_slice-parts.result.now))) c.action_of-action.ensures ∙ ap (λ (ts : List Term). held (steps_from here (written_role (action term.op)) 0 (views ts))) c.as_slice-parts.ensures.value)
    ∙ sum_both most_steps (target_steps here (action term.op) term.at) (steps_from here (written_role (action term.op)) 0 (views term.parts.items))
    ∙ sym (ap held (target_as here c.args.term.now))

pub read_steps-returns : goal.read_steps-returns
read_steps-returns g t c =
    let here = g.C.Costs.knows c.args.costs.now in
    let term = out-Term c.args.term.now in
    c.sum.ensures
    ∙ ap (λ n. held (n + c.parts_steps-behind.result)) (c.index_steps.ensures ∙ ap index_steps c.action_of-action.ensures)
    ∙ ap (λ n. held (index_steps (action term.op) + n)) (c.parts_steps-behind.ensures ∙ ap (λ a. held (steps_from here (read_role a) 0 (views c.as_slice-parts.result.now))) c.action_of-action.ensures ∙ ap (λ (ts : List Term). held (steps_from here (read_role (action term.op)) 0 (views ts))) c.as_slice-parts.ensures.value)
    ∙ sum_right most_steps (index_steps (action term.op)) (steps_from here (read_role (action term.op)) 0 (views term.parts.items))
    ∙ sym (ap held (read_as here c.args.term.now))

pub turn_steps-returns-in-len1-up : goal.turn_steps-returns-in-len1-up
turn_steps-returns-in-len1-up g t c =
    let here = g.C.Costs.knows c.args.costs.now in
    let at = c.args.at in
    let test = steps_as here Operand (view c.test-item.result) in
    let body = steps_from here every_operand 0 (views (drop 1 c.args.parts.now)) in
    c.loop_steps.ensures
    ∙ ap (λ n. held (turned n c.operand_steps-asked.result c.parts_steps-turned.result)) c.turns.ensures
    ∙ ap (λ n. held (turned (here.turns at) n c.parts_steps-turned.result)) c.operand_steps-asked.ensures
    ∙ ap (λ n. held (turned (here.turns at) (held test) n)) (c.parts_steps-turned.ensures ∙ ap (λ (ts : List Term). held (steps_from here every_operand 0 (views ts))) (take_rest c.args.parts.now 1))
    ∙ turned_held most_steps (here.turns at) test body
    ∙ sym (ap (λ ts. held (steps_by here does.While at ts)) (views_at c.args.parts.now 0 c.test-item.result (omega (arith, c.in-len1-up.len_at_least)) c.test-item.is))
