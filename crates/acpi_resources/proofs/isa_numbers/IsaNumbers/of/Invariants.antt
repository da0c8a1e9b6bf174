use Rattle.std.proofs.Common.{◌≡◌, ◌<◌, ℕ, length, slice_index}
use Rattle.std.specs.Option.{option_map}
use Rattle.acpi_resources.specs.Interrupts.{global_number}
use Rattle.acpi_resources.proofs.isa_numbers.IsaNumbers.of.Given as goal

-- those before are looked up
abbrev pub invariant-loop-irq : goal.invariant-loop-irq
invariant-loop-irq l =
    (length l.numbers ≡ 16)
    × ((irq : ℕ) → irq < l.irq → slice_index l.numbers irq ≡ global_number (option_map (λ madt. madt.now) l.madt) irq)
