use Rattle.std.proofs.Common.{arith}
use Rattle.acpi_resource_text.proofs.Irqs.{irq_found, irqs_found}
use Rattle.acpi_resources.proofs.Linked.{all_irqs, irqs_from, no_irq}
use Rattle.acpi_resource_text.proofs.numbers.irqs.Goals as goal

pub loop-irq-init : goal.loop-irq-init
loop-irq-init c = rw c.new-numbers.ensures.items (all_irqs c.args.mask)

pub loop-irq-preserved : goal.loop-irq-preserved
loop-irq-preserved c =
    rw c.in_ok-push_irq.ensures
    (irq_found c.args.mask c.loop-irq.irq c.loop-irq.numbers.items (omega (arith, c.loop-irq-test.true)) c.loop-irq.invariant)

pub returns : goal.returns
returns c =
    irqs_found c.args.mask c.loop-irq.numbers.items (irqs_from c.args.mask c.loop-irq.irq)
    (no_irq c.args.mask c.loop-irq.irq (omega (arith, c.loop-irq-test.false))) c.loop-irq.invariant
