use Rattle.std.proofs.Common.{sym}
use Rattle.aml_namespace.specs.Shows.{shown}
use Rattle.acpi_routing.proofs.Giving.{crs_gives}
use Rattle.acpi_routing.proofs.crs.items_of_device.Goals as goal

-- what is found gives a value
pub items_of_crs-requires-clause-gives : goal.items_of_crs-requires-clause-gives
items_of_crs-requires-clause-gives g c =
    crs_gives (shown c.args.checked.now.namespace.now) c.args.device.0 c.in-Some.crs.0 (sym (rw (c.namespace.ensures, c.in-Some.is) at c.in_ok-crs.ensures))
