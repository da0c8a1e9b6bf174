use Rattle.std.proofs.Common.{ap, sym, ◌∙◌, arith}
use Rattle.acpi_resources.specs.Interrupts.{first_of}
use Rattle.acpi_resources.proofs.Linked.{all_irqs, no_irq, not_this_irq, this_irq}
use Rattle.acpi_resources.proofs.link.first_irq.Goals as goal

pub loop-irq-init : goal.loop-irq-init
loop-irq-init c = all_irqs c.args.mask

pub loop-irq-preserved : goal.loop-irq-preserved
loop-irq-preserved c =
    sym (not_this_irq c.args.mask c.loop-irq.irq (omega (arith, c.loop-irq-test.true)) (sym c.if-is_set.ensures)) ∙ c.loop-irq.invariant

pub returns-then-is_set-clause-first : goal.returns-then-is_set-clause-first
returns-then-is_set-clause-first c =
    sym (ap first_of (sym c.loop-irq.invariant ∙ this_irq c.args.mask c.loop-irq.irq (omega (arith, c.loop-irq-test.true)) (sym c.if-is_set.ensures)))

pub returns-clause-first : goal.returns-clause-first
returns-clause-first c =
    sym (ap first_of (sym c.loop-irq.invariant ∙ no_irq c.args.mask c.loop-irq.irq (omega (arith, c.loop-irq-test.false))))
