-- How interrupts are signalled (ACPI 6.5, 6.4.2.1 and 6.4.3.6).
use Rattle.std.specs.Prelude.{ℕ, ◌/◌, ◌%◌, ◌==◌, Bool, true, false}
use Rattle.acpi_resources.specs.declared.signal.Signal.{Signal}
use Rattle.acpi_resources.specs.declared.signal.Trigger.{Trigger}
use Rattle.acpi_resources.specs.declared.signal.Trigger.TheVariants.{Edge, Level}
use Rattle.acpi_resources.specs.declared.signal.Polarity.{Polarity}
use Rattle.acpi_resources.specs.declared.signal.Polarity.TheVariants.{High, Low}
use Rattle.acpi_resources.specs.declared.signal.Sharing.{Sharing}
use Rattle.acpi_resources.specs.declared.signal.Sharing.TheVariants.{Exclusive, Shared}

abbrev pub trigger_of : Bool → Trigger
trigger_of true = Edge
trigger_of false = Level

abbrev pub polarity_of : Bool → Polarity
polarity_of true = Low
polarity_of false = High

abbrev pub sharing_of : Bool → Sharing
sharing_of true = Shared
sharing_of false = Exclusive

-- the third byte of an IRQ descriptor: bit 0 is set for edge, bit 3 for active low, bit 4 for
-- shared
abbrev pub irq_signal : ℕ → Signal
irq_signal information = record {
  trigger = trigger_of (information % 2 == 1);
  polarity = polarity_of (information / 8 % 2 == 1);
  sharing = sharing_of (information / 16 % 2 == 1);
}

-- an IRQ descriptor of two bytes has none: edge, active high, exclusive
abbrev pub isa_signal : Signal
isa_signal = record { trigger = Edge; polarity = High; sharing = Exclusive }

-- the flags of an extended interrupt descriptor: bit 1 is set for edge, bit 2 for active low, bit 3
-- for shared
abbrev pub interrupt_signal : ℕ → Signal
interrupt_signal flags = record {
  trigger = trigger_of (flags / 2 % 2 == 1);
  polarity = polarity_of (flags / 4 % 2 == 1);
  sharing = sharing_of (flags / 8 % 2 == 1);
}
