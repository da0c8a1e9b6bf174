use Rattle.std.proofs.Common.{◌≡◌, ◌++◌, ◌+◌, ◌*◌, drop}
use Rattle.aml_calls.specs.Calls.{calls_of}
use Rattle.aml_calls.specs.Pairs.{numbers}
use Rattle.aml_methods.specs.Gathered.{links_of}
use Rattle.aml_namespace.proofs.Weights.{weight, weights}
use Rattle.aml_operators.specs.Tree.{view, views}
use Rattle.aml_methods.proofs.gather.+gather.Given as goal

-- with what the terms that are left call, it is what all call
abbrev pub invariant-gather_all-loop-term : goal.invariant-gather_all-loop-term
invariant-gather_all-loop-term l =
    numbers l.callees.items ++ calls_of (links_of l.names) (views (drop l.term-index l.terms))
    ≡ numbers l.initial.callees.items ++ calls_of (links_of l.names) (views l.terms)

abbrev pub decreases-gather : goal.decreases-gather
decreases-gather l = 2 * weight (view l.term.now)

abbrev pub decreases-gather_all : goal.decreases-gather_all
decreases-gather_all l = 2 * weights (views l.terms.now) + 1
