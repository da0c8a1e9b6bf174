use Rattle.std.proofs.Common.{option_map}
use Rattle.acpi_resources.specs.Interrupts.{crs_of_links}
use Rattle.aml_values.specs.Views.{view}
use Rattle.acpi_listing.proofs.RoutesListed.{no_routes}
use Rattle.acpi_listing.proofs.routing.routes_in.Goals as goal

pub returns-in_err-routes : goal.returns-in_err-routes
returns-in_err-routes c =
    no_routes _ (option_map (λ m. m.now) c.args.madt) (crs_of_links c.args.links.now) (view c.args.value.now) _ c.from_residual.result
    c.from_residual.ensures.1 c.in_err-routes.ensures

pub returns : goal.returns
returns c = c.in_ok-routes.ensures
