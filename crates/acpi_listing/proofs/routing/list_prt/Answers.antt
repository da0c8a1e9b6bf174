use Rattle.acpi_listing.proofs.RoutesListed.{nothing_given}
use Rattle.acpi_listing.proofs.routing.list_prt.Goals as goal

pub returns-in-Value : goal.returns-in-Value
returns-in-Value g c = rw c.in-Value.is (rw c.deref.ensures.value at c.list_value.ensures)

pub returns-in-Nothing : goal.returns-in-Nothing
returns-in-Nothing g c = rw c.in-Nothing.is (nothing_given _ _ c.no_package.ensures)

pub returns-in-Refused : goal.returns-in-Refused
returns-in-Refused g c = rw c.in-Refused.is c.print_said.ensures
