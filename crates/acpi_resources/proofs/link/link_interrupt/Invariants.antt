use Rattle.std.proofs.Common.{◌≡◌, drop, slice_index}
use Rattle.acpi_resources.specs.Interrupts.{link_interrupt}
use Rattle.acpi_resources.proofs.link.link_interrupt.Given as goal

-- no item before lists interrupts
abbrev pub invariant-loop-item : goal.invariant-loop-item
invariant-loop-item l =
    link_interrupt (slice_index l.isa.numbers) (drop l.item-index l.items) ≡ link_interrupt (slice_index l.isa.numbers) l.items
