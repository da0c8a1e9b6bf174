use Rattle.std.proofs.Common.{refl}
use Rattle.acpi_text.proofs.Listing.{more_listed, none_listed, stopped_listed}
use Rattle.acpi_text.proofs.NameLemmas.{next_item}
use Rattle.acpi_resource_text.specs.Lines.{route_line}
use Rattle.acpi_resource_text.proofs.route_lines.list_routes.Goals as goal

pub loop-route-init : goal.loop-route-init
loop-route-init g c = none_listed refl

pub loop-route-preserved : goal.loop-route-preserved
loop-route-preserved g c =
    more_listed _ _ (next_item route_line c.args.routes.now c.loop-route.route-index _ c.loop-route-test.true)
    c.loop-route.invariant c.in_ok-list_route.ensures

pub returns-in_err-list_route : goal.returns-in_err-list_route
returns-in_err-list_route g c =
    stopped_listed c.from_residual.result _ _ _ c.from_residual.ensures.0
    (next_item route_line c.args.routes.now c.loop-route.route-index _ c.loop-route-test.true)
    c.loop-route.invariant c.in_err-list_route.ensures
