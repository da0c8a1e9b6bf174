use Rattle.std.proofs.Common.{refl}
use Rattle.acpi_resource_text.specs.Lines.{items_text}
use Rattle.acpi_listing.proofs.Chains.{half_told, told}
use Rattle.acpi_listing.proofs.resources.print_items.Goals as goal
use Rattle.acpi_sources.specs.declared.status.Status.TheVariants as exit

pub returns-in_err-list_resources : goal.returns-in_err-list_resources
returns-in_err-list_resources g c =
    half_told tt _ _ (items_text c.args.items.now) exit.Done _ c.from_residual.result c.from_residual.ensures.1 c.in_err-list_resources.ensures

pub returns : goal.returns
returns g c = told tt _ _ (items_text c.args.items.now) exit.Done exit.Done refl c.in_ok-list_resources.ensures
