use Rattle.std.proofs.Common.{refl}
use Rattle.acpi_resource_text.specs.Lines.{routes_text}
use Rattle.acpi_listing.proofs.Chains.{half_told, told}
use Rattle.acpi_listing.proofs.routing.print_routes.Goals as goal
use Rattle.acpi_sources.specs.declared.status.Status.TheVariants as exit

pub returns-in_err-list_routes : goal.returns-in_err-list_routes
returns-in_err-list_routes g c =
    half_told tt _ _ (routes_text c.args.routes.now) exit.Done _ c.from_residual.result c.from_residual.ensures.1 c.in_err-list_routes.ensures

pub returns : goal.returns
returns g c = told tt _ _ (routes_text c.args.routes.now) exit.Done exit.Done refl c.in_ok-list_routes.ensures
