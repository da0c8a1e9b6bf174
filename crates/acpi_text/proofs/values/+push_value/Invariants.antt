use Rattle.std.proofs.Common.{◌≡◌, ◌+◌, ◌*◌, ◌++◌, take}
use Rattle.aml_values.specs.Values.{depth, element_depth, greatest_depth}
use Rattle.aml_values.specs.Views.{element, elements_of, view}
use Rattle.aml_namespace.specs.Shows.{shown}
use Rattle.acpi_text.specs.Values.{element_texts, listed}
use Rattle.acpi_text.proofs.values.+push_value.Given as goal

-- the elements so far were added
abbrev pub invariant-push_elements-loop-i : goal.invariant-push_elements-loop-i
invariant-push_elements-loop-i l =
    l.text.items ≡ l.initial.text.items ++ listed (element_texts (shown l.namespace).entries (elements_of (take l.i l.elements)))

-- an element stands below its package, and a value in an element below that
abbrev pub decreases-push_value : goal.decreases-push_value
decreases-push_value l = 3 * depth (view l.value.now)

abbrev pub decreases-push_element : goal.decreases-push_element
decreases-push_element l = 3 * element_depth (element l.each.now) + 1

abbrev pub decreases-push_elements : goal.decreases-push_elements
decreases-push_elements l = 3 * greatest_depth (elements_of l.elements.now) + 2
