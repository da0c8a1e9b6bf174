-- The interrupts of link devices (ACPI 6.5, 6.2.13, with 6.4.2.1, 6.4.3.6 and 5.2.12.5).
use Rattle.std.specs.Prelude.{ℕ, ◌/◌, ◌%◌, ◌^◌, ◌==◌, List, [], ◌∷◌, Bool, true, false, Option, Some, None, Vec, find, map, vec_items}
use Rattle.std.specs.List.{filter, range_with_len}
use Rattle.std.specs.Option.{option_and_then, option_map}
use Rattle.std.specs.Map.{lookup}
use Rattle.acpi_tables.specs.Isa.{isa}
use Rattle.acpi_tables.specs.Madt.{entries}
use Rattle.acpi_tables.specs.declared.madt.Madt.{Madt}
use Rattle.acpi_resources.specs.declared.item.Item.{Item}
use Rattle.acpi_resources.specs.declared.item.Item.TheVariants as item
use Rattle.acpi_resources.specs.declared.route.GlobalInterrupt.{GlobalInterrupt}
use Rattle.acpi_resources.specs.declared.signal.Signal.{Signal}
use Rattle.aml_paths.specs.declared.scope.ObjectId.{ObjectId}

-- bit n of a mask stands for interrupt n of the ISA bus
abbrev pub has_irq : ℕ → ℕ → Bool
has_irq mask irq = mask / 2 ^ irq % 2 == 1

-- the interrupts of a mask of sixteen bits, the least first
unfoldable pub irqs : ℕ → List ℕ
irqs mask = filter (has_irq mask) (range_with_len 0 16)

abbrev pub first_of : List ℕ → Option ℕ
first_of [] = None
first_of (n ∷ rest) = Some n

-- an interrupt of that number, signalled so
abbrev pub by_signal : Signal → ℕ → GlobalInterrupt
by_signal signal number =
    record { number = number; trigger = signal.trigger; polarity = signal.polarity }

-- the number of the global interrupt of an interrupt of the ISA bus: where the MADT sends it, its
-- own without one
abbrev pub global_number : Option Madt → ℕ → ℕ
global_number None irq = irq
global_number (Some madt) irq = (isa (entries madt) irq).number

-- whether an item lists interrupts
abbrev pub is_of_interrupts : Item → Bool
is_of_interrupts (item.Irq mask signal) = true
is_of_interrupts (item.Interrupt signal numbers) = true
is_of_interrupts _ = false

-- the first interrupt that an item lists, as it says that interrupts are signalled: of the ISA bus
-- by the global interrupt's number, others by their own
abbrev pub first_interrupt : (ℕ → ℕ) → Item → Option GlobalInterrupt
first_interrupt global (item.Irq mask signal) =
    option_map (λ irq. by_signal signal (global irq)) (first_of (irqs mask))
first_interrupt global (item.Interrupt signal numbers) =
    option_map (by_signal signal) (first_of numbers)
first_interrupt global _ = None

-- the interrupt of a device with these items: the first of the first item that lists interrupts,
-- and none where that lists none
abbrev pub link_interrupt : (ℕ → ℕ) → List Item → Option GlobalInterrupt
link_interrupt global items = option_and_then (first_interrupt global) (find is_of_interrupts items)

-- devices, each with the items of its _CRS
abbrev pub Links : Type 0
Links = List (ObjectId × List Item)

-- the items of a device, by its number: the first that are listed with it
abbrev pub items_of_device : Links → ℕ → Option (List Item)
items_of_device links device = lookup (λ id. id.0 == device) links

-- the interrupt of a device by its number, if it is listed and has one
abbrev pub interrupt_of_device : (ℕ → ℕ) → Links → ℕ → Option GlobalInterrupt
interrupt_of_device global links device =
    option_and_then (link_interrupt global) (items_of_device links device)

-- the program's list of links as such a list
abbrev pub crs_of_links : {Z : Type 0} → List (ObjectId × Vec Item Z) → Links
crs_of_links links = map (λ link. (link.0, vec_items link.1)) links

-- a value that may be missing twice
abbrev pub flat : Option (Option GlobalInterrupt) → Option GlobalInterrupt
flat None = None
flat (Some interrupt) = interrupt
