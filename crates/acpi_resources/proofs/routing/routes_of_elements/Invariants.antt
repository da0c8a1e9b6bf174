use Rattle.std.proofs.Common.{◌≡◌, drop}
use Rattle.std.specs.BTreeMap.{get}
use Rattle.std.specs.Ordering.{nat_cmp}
use Rattle.aml_values.specs.Views.{elements_of}
use Rattle.acpi_resources.specs.Interrupts.{flat}
use Rattle.acpi_resources.specs.Routes.{routes_from}
use Rattle.acpi_resources.proofs.Routed.{ahead}
use Rattle.acpi_resources.proofs.routing.routes_of_elements.Given as goal

-- the routes that were found and those that are left are all of them
abbrev pub invariant-loop-number : goal.invariant-loop-number
invariant-loop-number l =
    ahead l.routes.items (routes_from (λ device. flat (get nat_cmp l.links.interrupts device)) l.number (elements_of (drop l.number l.elements)))
    ≡ routes_from (λ device. flat (get nat_cmp l.links.interrupts device)) 0 (elements_of l.elements)
