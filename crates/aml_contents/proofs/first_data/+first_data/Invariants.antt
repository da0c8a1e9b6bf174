use Rattle.std.proofs.Common.{◌≡◌, ◌+◌, ◌*◌, map, take}
use Rattle.aml_operators.specs.Tree.{view, views}
use Rattle.aml_namespace.specs.Shows.{shown}
use Rattle.aml_namespace.proofs.Weights.{weight, weights}
use Rattle.aml_values.specs.Views.{element}
use Rattle.aml_contents.specs.FirstContents.{element_in}
use Rattle.aml_contents.proofs.first_data.+first_data.Given as goal

-- the elements so far are those of their terms
abbrev pub invariant-elements_in-loop-term : goal.invariant-elements_in-loop-term
invariant-elements_in-loop-term l =
    map element l.made.items ≡ map (λ t. element_in (shown l.namespace) l.site.table l.site.scope (view t)) (take l.term-index l.terms)

abbrev pub decreases-value_of : goal.decreases-value_of
decreases-value_of l = 2 * weights (views l.parts.now) + 2

abbrev pub decreases-element_in : goal.decreases-element_in
decreases-element_in l = 2 * weight (view l.term.now) + 1

abbrev pub decreases-elements_in : goal.decreases-elements_in
decreases-elements_in l = 2 * weights (views l.terms.now)

abbrev pub decreases-elements_behind : goal.decreases-elements_behind
decreases-elements_behind l = 2 * weights (views l.parts.now) + 1
