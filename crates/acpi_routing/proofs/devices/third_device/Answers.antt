use Rattle.std.proofs.Common.{◌∙◌, ap, sym}
use Rattle.acpi_routing.specs.Devices.{device_named}
use Rattle.acpi_routing.proofs.Numbered.{looked_up}
use Rattle.acpi_routing.proofs.devices.third_device.Goals as goal

pub returns : goal.returns
returns c =
    let lookup = c.get.ensures.lookup in
    c.device_named.ensures ∙ ap device_named (sym (looked_up c.get.result c.args.parts.now 2 lookup.0 lookup.1))
