use Rattle.std.proofs.Common.{◌≡◌, ◌++◌}
use Rattle.acpi_resources.specs.Interrupts.{irqs}
use Rattle.acpi_resources.proofs.Linked.{irqs_from}
use Rattle.acpi_resource_text.proofs.numbers.irqs.Given as goal

-- the interrupts before and those from there on are all of them
abbrev pub invariant-loop-irq : goal.invariant-loop-irq
invariant-loop-irq l = l.numbers.items ++ irqs_from l.mask l.irq ≡ irqs l.mask
