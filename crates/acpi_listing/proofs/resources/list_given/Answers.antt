use Rattle.acpi_listing.proofs.resources.list_given.Goals as goal

pub returns-in-Value : goal.returns-in-Value
returns-in-Value g c = rw c.in-Value.is (rw c.octets_of.ensures at c.list_items.ensures)

pub returns-in-Nothing : goal.returns-in-Nothing
returns-in-Nothing g c = rw c.in-Nothing.is c.list_items-in-Nothing.ensures

pub returns-in-Refused : goal.returns-in-Refused
returns-in-Refused g c = rw c.in-Refused.is c.print_said.ensures
