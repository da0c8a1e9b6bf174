use Rattle.acpi_listing.proofs.GivenListed.{no_items}
use Rattle.acpi_listing.proofs.resources.items_in.Goals as goal

pub returns-in_err-items : goal.returns-in_err-items
returns-in_err-items c = no_items _ c.args.octets.now _ c.from_residual.result c.from_residual.ensures.1 c.in_err-items.ensures.gives

pub returns : goal.returns
returns c = c.in_ok-items.ensures.gives
