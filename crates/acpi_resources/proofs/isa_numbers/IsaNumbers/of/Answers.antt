use Rattle.std.proofs.Common.{arith}
use Rattle.std.proofs.lemmas.List.{length-set}
use Rattle.std.specs.Option.{option_map}
use Rattle.acpi_resources.specs.Interrupts.{global_number}
use Rattle.acpi_resources.proofs.Linked.{number_more}
use Rattle.acpi_resources.proofs.isa_numbers.IsaNumbers.of.Goals as goal

pub loop-irq-preserved : goal.loop-irq-preserved
loop-irq-preserved c = (
  omega (arith, length-set c.loop-irq.numbers c.loop-irq.irq c.global_number.result, c.loop-irq.invariant.0),
  number_more c.loop-irq.numbers (global_number (option_map (λ madt. madt.now) c.args.madt)) c.loop-irq.irq c.global_number.result
      (omega (arith, c.loop-irq.invariant.0, c.loop-irq-test.true)) c.global_number.ensures c.loop-irq.invariant.1,
)
