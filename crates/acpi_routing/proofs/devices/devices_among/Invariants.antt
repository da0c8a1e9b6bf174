use Rattle.std.proofs.Common.{◌≡◌, drop}
use Rattle.aml_values.specs.Views.{elements_of}
use Rattle.acpi_routing.specs.Devices.{IsSetOf, devices_among, once}
use Rattle.acpi_routing.proofs.Kept.{ahead}
use Rattle.acpi_routing.proofs.devices.devices_among.Given as goal

-- those that were kept and those that are left to see are all, and the set has the numbers of those that were kept
abbrev pub invariant-loop-each : goal.invariant-loop-each
invariant-loop-each l = record {
  kept : ahead l.devices.items (devices_among (elements_of (drop l.each-index l.elements))) ≡ once (devices_among (elements_of l.elements));
  seen : IsSetOf l.seen l.devices.items;
}
