use Rattle.std.proofs.Common.{◌≡◌}
use Rattle.acpi_resources.specs.Interrupts.{irqs}
use Rattle.acpi_resources.proofs.Linked.{irqs_from}
use Rattle.acpi_resources.proofs.link.first_irq.Given as goal

-- no interrupt before is in the mask
abbrev pub invariant-loop-irq : goal.invariant-loop-irq
invariant-loop-irq l = irqs_from l.mask l.irq ≡ irqs l.mask
