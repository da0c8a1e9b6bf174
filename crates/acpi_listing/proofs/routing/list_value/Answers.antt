use Rattle.std.proofs.Common.{option_map}
use Rattle.acpi_resources.specs.Interrupts.{crs_of_links}
use Rattle.acpi_listing.proofs.RoutesListed.{no_package, no_way, routes_listed}
use Rattle.acpi_listing.proofs.routing.list_value.Goals as goal

pub returns-in_default : goal.returns-in_default
returns-in_default g c =
    no_package (option_map (λ m. m.now) c.args.madt) (crs_of_links c.args.links.now) c.args.value.now _ _ c.in_default.not-Pkg c.no_package.ensures

pub returns-in_err-routes : goal.returns-in_err-routes
returns-in_err-routes g c =
    rw c.in-Pkg.is
    (no_way (option_map (λ m. m.now) c.args.madt) (crs_of_links c.args.links.now) c.in-Pkg.field-0 _ _ c.from_residual.result
    c.from_residual.ensures.1 (rw c.in-Pkg.is at c.in_err-routes.ensures))

pub returns : goal.returns
returns g c =
    rw c.in-Pkg.is
    (routes_listed (option_map (λ m. m.now) c.args.madt) (crs_of_links c.args.links.now) c.in-Pkg.field-0 c.in_ok-routes.routes.items _ _ c.print_routes.result
    (rw c.in-Pkg.is at c.in_ok-routes.ensures) (rw c.as_slice.ensures.value at c.print_routes.ensures))
