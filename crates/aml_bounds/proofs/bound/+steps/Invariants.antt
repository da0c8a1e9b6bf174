use Rattle.std.proofs.Common.{◌≡◌, ◌+◌, ◌*◌, drop}
use Rattle.aml_operators.specs.Tree.{view, views}
use Rattle.aml_namespace.proofs.Weights.{weight, weights}
use Rattle.aml_bounds.specs.Steps.{roles_of, steps_from, steps_of_block, steps_of_else}
use Rattle.aml_bounds.proofs.Held.{SoFar}
use Rattle.aml_bounds.proofs.bound.+steps.Given as goal

-- the steps so far, and those of the parts behind
abbrev pub invariant-parts_steps-parts : goal.invariant-parts_steps-parts
invariant-parts_steps-parts g l =
    SoFar l.total (steps_from (g.C.Costs.knows l.costs) (roles_of l.roles) l.i (views (drop l.i l.parts))) (steps_from (g.C.Costs.knows l.costs) (roles_of l.roles) 0 (views l.parts))

abbrev pub invariant-block_steps-statements : goal.invariant-block_steps-statements
invariant-block_steps-statements g l =
    SoFar l.total (steps_of_block (g.C.Costs.knows l.costs) (views (drop l.statement-index l.statements))) (steps_of_block (g.C.Costs.knows l.costs) (views l.statements))

-- no Else stands so far
abbrev pub invariant-else_steps-statements : goal.invariant-else_steps-statements
invariant-else_steps-statements g l =
    steps_of_else (g.C.Costs.knows l.costs) (views l.statements) ≡ steps_of_else (g.C.Costs.knows l.costs) (views (drop l.statement-index l.statements))

abbrev pub decreases-part_steps : goal.decreases-part_steps
decreases-part_steps g l = 4 * weight (view l.term.now) + 3

abbrev pub decreases-operand_steps : goal.decreases-operand_steps
decreases-operand_steps g l = 4 * weight (view l.term.now) + 2

abbrev pub decreases-written_steps : goal.decreases-written_steps
decreases-written_steps g l = 4 * weight (view l.term.now) + 2

abbrev pub decreases-steps_by : goal.decreases-steps_by
decreases-steps_by g l = 4 * weights (views l.parts.now) + 3

abbrev pub decreases-plain_steps : goal.decreases-plain_steps
decreases-plain_steps g l = 4 * weights (views l.parts.now) + 2

abbrev pub decreases-turn_steps : goal.decreases-turn_steps
decreases-turn_steps g l = 4 * weights (views l.parts.now) + 2

abbrev pub decreases-branch_steps : goal.decreases-branch_steps
decreases-branch_steps g l = 4 * weights (views l.parts.now) + 2

abbrev pub decreases-parts_steps : goal.decreases-parts_steps
decreases-parts_steps g l = 4 * weights (views l.parts.now)

abbrev pub decreases-block_steps : goal.decreases-block_steps
decreases-block_steps g l = 4 * weights (views l.statements.now) + 1

abbrev pub decreases-else_steps : goal.decreases-else_steps
decreases-else_steps g l = 4 * weights (views l.statements.now) + 1

abbrev pub decreases-read_steps : goal.decreases-read_steps
decreases-read_steps g l = 4 * weight (view l.term.now) + 2
