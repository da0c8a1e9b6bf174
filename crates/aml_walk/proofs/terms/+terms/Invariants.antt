use Rattle.std.proofs.Common.{◌≡◌, ◌+◌, ◌*◌, ◌++◌, drop}
use Rattle.aml_operators.specs.Tree.{view, views}
use Rattle.aml_namespace.proofs.Weights.{weight, weights}
use Rattle.aml_judged.specs.Judged.{goes, ◌>>=◌}
use Rattle.aml_judged.specs.Judge.{judged_all, judged_block, judged_otherwise, judged_values}
use Rattle.aml_known.specs.Views.{kinds_of}
use Rattle.aml_judging.proofs.Going.{Leads}
use Rattle.aml_walk.proofs.terms.+terms.Given as goal

-- a part weighs less than what it is a part of; the functions that one term passes through come one behind the other
abbrev pub decreases-acts::statement : goal.decreases-acts::statement
decreases-acts::statement g l = 6 * weight (view l.term.now)

abbrev pub decreases-acts::value : goal.decreases-acts::value
decreases-acts::value g l = 6 * weight (view l.term.now)

abbrev pub decreases-blocks::test : goal.decreases-blocks::test
decreases-blocks::test g l = 6 * weight (view l.term.now) + 1

abbrev pub decreases-stores::store : goal.decreases-stores::store
decreases-stores::store g l = 6 * weight (view l.target.now) + 1

abbrev pub decreases-acts::act : goal.decreases-acts::act
decreases-acts::act g l = 6 * weights (views l.parts.now) + 5

abbrev pub decreases-operators::binary : goal.decreases-operators::binary
decreases-operators::binary g l = 6 * weights (views l.parts.now) + 4

abbrev pub decreases-operators::unary : goal.decreases-operators::unary
decreases-operators::unary g l = 6 * weights (views l.parts.now) + 4

abbrev pub decreases-operators::by_one : goal.decreases-operators::by_one
decreases-operators::by_one g l = 6 * weights (views l.parts.now) + 4

abbrev pub decreases-operators::compared : goal.decreases-operators::compared
decreases-operators::compared g l = 6 * weights (views l.parts.now) + 4

abbrev pub decreases-operators::negated : goal.decreases-operators::negated
decreases-operators::negated g l = 6 * weights (views l.parts.now) + 4

abbrev pub decreases-operators::divided : goal.decreases-operators::divided
decreases-operators::divided g l = 6 * weights (views l.parts.now) + 4

abbrev pub decreases-operators::converted : goal.decreases-operators::converted
decreases-operators::converted g l = 6 * weights (views l.parts.now) + 4

abbrev pub decreases-operators::concatenated : goal.decreases-operators::concatenated
decreases-operators::concatenated g l = 6 * weights (views l.parts.now) + 4

abbrev pub decreases-stores::stored : goal.decreases-stores::stored
decreases-stores::stored g l = 6 * weights (views l.parts.now) + 4

abbrev pub decreases-stores::dereferenced : goal.decreases-stores::dereferenced
decreases-stores::dereferenced g l = 6 * weights (views l.parts.now) + 4

abbrev pub decreases-calls::invoked : goal.decreases-calls::invoked
decreases-calls::invoked g l = 6 * weights (views l.parts.now) + 4

abbrev pub decreases-blocks::branch : goal.decreases-blocks::branch
decreases-blocks::branch g l = 6 * weights (views l.parts.now) + 4

abbrev pub decreases-blocks::looped : goal.decreases-blocks::looped
decreases-blocks::looped g l = 6 * weights (views l.parts.now) + 4

abbrev pub decreases-calls::notifies : goal.decreases-calls::notifies
decreases-calls::notifies g l = 6 * weights (views l.parts.now) + 4

abbrev pub decreases-calls::pauses : goal.decreases-calls::pauses
decreases-calls::pauses g l = 6 * weights (views l.parts.now) + 4

abbrev pub decreases-calls::returned : goal.decreases-calls::returned
decreases-calls::returned g l = 6 * weights (views l.parts.now) + 4

abbrev pub decreases-stores::store_byte : goal.decreases-stores::store_byte
decreases-stores::store_byte g l = 6 * weights (views l.parts.now) + 4

abbrev pub decreases-stores::led : goal.decreases-stores::led
decreases-stores::led g l = 6 * weights (views l.parts.now) + 4

abbrev pub decreases-calls::values : goal.decreases-calls::values
decreases-calls::values g l = 6 * weights (views l.terms.now) + 1

abbrev pub decreases-blocks::all : goal.decreases-blocks::all
decreases-blocks::all g l = 6 * weights (views l.statements.now) + 1

abbrev pub decreases-blocks::block : goal.decreases-blocks::block
decreases-blocks::block g l = 6 * weights (views l.statements.now) + 1

abbrev pub decreases-blocks::otherwise : goal.decreases-blocks::otherwise
decreases-blocks::otherwise g l = 6 * weights (views l.statements.now) + 1

abbrev pub decreases-blocks::turn : goal.decreases-blocks::turn
decreases-blocks::turn g l = 6 * weights (views l.body.now) + 2

abbrev pub decreases-blocks::once : goal.decreases-blocks::once
decreases-blocks::once g l = 6 * (weight (view l.condition.now) + weights (views l.body.now)) + 3

abbrev pub decreases-blocks::often : goal.decreases-blocks::often
decreases-blocks::often g l = 6 * (weight (view l.condition.now) + weights (views l.body.now)) + 3

abbrev pub decreases-blocks::falling : goal.decreases-blocks::falling
decreases-blocks::falling g l = 6 * (weight (view l.condition.now) + weights (views l.body.now)) + 4

-- what the rest gives behind those so far, all give
abbrev pub invariant-calls::values-loop-term : goal.invariant-calls::values-loop-term
invariant-calls::values-loop-term g l =
    Leads (g.A.Shapes.numbered l.here)
    (judged_values (g.A.Around.around l.here) (views (drop l.term-index l.terms)) >>= λ ks. goes (kinds_of (g.A.Shapes.numbered l.here) l.kinds.items ++ ks))
    (judged_values (g.A.Around.around l.here) (views l.terms)) l.fn.progress l.progress

-- what the rest gives, all give
abbrev pub invariant-blocks::all-loop-term : goal.invariant-blocks::all-loop-term
invariant-blocks::all-loop-term g l =
    Leads (g.A.Shapes.numbered l.here)
    (judged_all (g.A.Around.around l.here) (views (drop l.term-index l.statements)))
    (judged_all (g.A.Around.around l.here) (views l.statements)) l.fn.progress l.progress

abbrev pub invariant-blocks::block-loop-term : goal.invariant-blocks::block-loop-term
invariant-blocks::block-loop-term g l =
    Leads (g.A.Shapes.numbered l.here)
    (judged_block (g.A.Around.around l.here) (views (drop l.term-index l.statements)))
    (judged_block (g.A.Around.around l.here) (views l.statements)) l.fn.progress l.progress

-- before its Else, all is as it was
abbrev pub invariant-blocks::otherwise-loop-term : goal.invariant-blocks::otherwise-loop-term
invariant-blocks::otherwise-loop-term g l =
    (judged_otherwise (g.A.Around.around l.here) (views (drop l.term-index l.statements))
    ≡ judged_otherwise (g.A.Around.around l.here) (views l.statements))
    × (l.progress ≡ l.fn.progress)
