use Rattle.std.proofs.Common.{◌≡◌, take}
use Rattle.aml_namespace.specs.Shows.{shown}
use Rattle.aml_calls.specs.Pairs.{numbers}
use Rattle.aml_methods.proofs.Calls.{AreCalled, firsts}
use Rattle.aml_methods.proofs.Keeping.{KeepsSoFar}
use Rattle.aml_methods.specs.HandedOn.{AreTrees}
use Rattle.aml_methods.proofs.gather.gathered.Given as goal

-- each of the methods so far has its pair, and is kept; what is handed on stays right
abbrev pub invariant-loop-id : goal.invariant-loop-id
invariant-loop-id l =
    (AreCalled (shown l.namespace) l.calls.items × (firsts l.calls.items ≡ take l.id-index l.methods))
    × KeepsSoFar (shown l.namespace) (numbers l.methods) l.id-index l.kept.items
    × (AreTrees (shown l.namespace) l.initial.trees.bodies.items → AreTrees (shown l.namespace) l.trees.bodies.items)
