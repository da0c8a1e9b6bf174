use Rattle.std.proofs.Common.{◌≤◌, ◌+◌, ◌*◌, ◌-◌, length, map}
use Rattle.aml_paths.specs.declared.scope.Scope.TheVariants.{At}
use Rattle.aml_namespace.specs.Shows.{shown}
use Rattle.aml_values.specs.Views.{element}
use Rattle.aml_literals.specs.There.{ElementsThere}
use Rattle.aml_literals.proofs.Elements.{AreMade}
use Rattle.aml_literals.proofs.data.+data.Given as goal

abbrev pub decreases-element : goal.decreases-element
decreases-element l = 3 * (length l.bytes.now - l.at)

abbrev pub decreases-elements : goal.decreases-elements
decreases-elements l = 3 * (length l.bytes.now - l.start) + 2

abbrev pub decreases-next_element : goal.decreases-next_element
decreases-next_element l = 3 * (length l.bytes.now - l.at) + 1

abbrev pub decreases-value : goal.decreases-value
decreases-value l = 3 * (length l.bytes.now - l.at)

-- the elements so far are made, and the others stand from a place on
abbrev pub invariant-elements-each : goal.invariant-elements-each
invariant-elements-each l = record {
  ahead : l.start ≤ l.at;
  made : (e : ElementsThere l.bytes l.start) → AreMade (shown l.namespace) l.site.table (At l.site.method) l.count l.counter (map element l.made.items) l.bytes l.at e.parts;
}
