use Rattle.std.proofs.Common.{drop}
use Rattle.std.specs.List.{flat_map}
use Rattle.acpi_text.proofs.Listing.{Listed}
use Rattle.acpi_resource_text.specs.Lines.{route_line, routes_text}
use Rattle.acpi_resource_text.proofs.route_lines.list_routes.Given as goal

-- the lines before were appended, and the others are left
abbrev pub invariant-loop-route : goal.invariant-loop-route
invariant-loop-route g l =
    Listed (routes_text l.routes) (flat_map route_line (drop l.route-index l.routes))
    (g.W.Write.contents l.initial.out) (g.W.Write.contents l.out)
