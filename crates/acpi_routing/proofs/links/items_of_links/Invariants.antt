use Rattle.std.proofs.Common.{drop}
use Rattle.acpi_resources.specs.Interrupts.{crs_of_links}
use Rattle.aml_contents.specs.Belongs.{Belong}
use Rattle.aml_contents.specs.Held.{content_kinds}
use Rattle.aml_machine.specs.Views.{names_of}
use Rattle.aml_namespace.specs.Shows.{shown}
use Rattle.acpi_routing.proofs.Asked.{AreAsked}
use Rattle.acpi_routing.proofs.links.items_of_links.Given as goal

-- the devices up to there are asked, and the names are the namespace's
abbrev pub invariant-loop-device : goal.invariant-loop-device
invariant-loop-device g l = record {
  asked : AreAsked l.checked l.devices (drop l.device-index l.devices) (crs_of_links l.links.items)
      (names_of l.fn.names) (g.W.World.log l.fn.world) (names_of l.names) (g.W.World.log l.world);
  belong : Belong (shown l.checked.namespace.now) (content_kinds l.names);
}
