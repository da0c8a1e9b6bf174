use Rattle.acpi_listing.proofs.GivenListed.{items_listed, no_spelling}
use Rattle.acpi_listing.proofs.resources.list_spelled.Goals as goal

pub returns-in_err-items : goal.returns-in_err-items
returns-in_err-items g c =
    no_spelling c.args.octets.now _ _ c.from_residual.result c.from_residual.ensures.1 c.in_err-items.ensures

pub returns : goal.returns
returns g c =
    items_listed c.args.octets.now c.in_ok-items.items.items _ _ c.print_items.result c.in_ok-items.ensures
    (rw c.as_slice.ensures.value at c.print_items.ensures)
