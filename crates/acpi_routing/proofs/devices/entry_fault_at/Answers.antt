use Rattle.std.proofs.Common.{◌∙◌, ap, sym}
use Rattle.aml_values.specs.Values.{Elements}
use Rattle.acpi_routing.specs.Devices.{element_in, fault_of_one}
use Rattle.acpi_routing.proofs.Numbered.{looked_up}
use Rattle.acpi_routing.proofs.devices.entry_fault_at.Goals as goal

pub returns-in-Pkg : goal.returns-in-Pkg
returns-in-Pkg c =
    let lookup = c.get.ensures.lookup in
    rw c.in-Pkg.is
    (c.fault_of_one.ensures
    ∙ ap fault_of_one (sym (looked_up c.get.result c.elements.result.now c.args.number lookup.0 lookup.1)
    ∙ ap (λ (es : Elements). element_in es c.args.number) c.elements.ensures))
