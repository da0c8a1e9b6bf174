use Rattle.acpi_listing.proofs.resources.list_items.Goals as goal

pub returns-in-Some : goal.returns-in-Some
returns-in-Some g c = rw c.in-Some.is c.list_spelled.ensures
