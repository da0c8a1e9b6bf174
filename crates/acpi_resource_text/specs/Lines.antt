-- The lines of resource descriptors and of routes.
use Rattle.std.specs.Prelude.{ℕ, List, [], ◌∷◌, ◌++◌, codes, decimal}
use Rattle.std.specs.List.{flat_map}
use Rattle.acpi_text.specs.Text.{joined, hex}
use Rattle.acpi_resources.specs.Interrupts.{irqs}
use Rattle.acpi_resources.specs.declared.item.AddressWidth.{AddressWidth}
use Rattle.acpi_resources.specs.declared.item.Item.{Item}
use Rattle.acpi_resources.specs.declared.item.Item.TheVariants as item
use Rattle.acpi_resources.specs.declared.route.Route.{Route}
use Rattle.acpi_resources.specs.declared.signal.Signal.{Signal}
use Rattle.acpi_resource_text.specs.Words.{pin_text, polarity_text, sharing_text, trigger_text, width_text}

-- a number behind others
abbrev pub behind_comma : ℕ → List ℕ
behind_comma n = codes "," ++ decimal n

-- numbers with commas between them, `-` where there are none
abbrev pub numbers_text : List ℕ → List ℕ
numbers_text [] = codes "-"
numbers_text (n ∷ rest) = decimal n ++ flat_map behind_comma rest

-- the line of an item that lists interrupts, behind its word
unfoldable pub interrupts_line : List ℕ → List ℕ → Signal → List ℕ
interrupts_line word numbers signal =
    joined (word ∷ codes " " ∷ numbers ∷ codes " " ∷ trigger_text signal.trigger ∷ codes " "
    ∷ polarity_text signal.polarity ∷ codes " " ∷ sharing_text signal.sharing ∷ codes "\n" ∷ [])

-- a range whose first place is between two addresses
unfoldable pub placed_line : List ℕ → ℕ → ℕ → ℕ → ℕ → List ℕ
placed_line word minimum maximum alignment length =
    joined (word ∷ codes " 0x" ∷ hex minimum ∷ codes " 0x" ∷ hex maximum ∷ codes " align "
    ∷ decimal alignment ∷ codes " length " ∷ decimal length ∷ codes "\n" ∷ [])

-- a range from a place on
unfoldable pub fixed_line : List ℕ → ℕ → ℕ → List ℕ
fixed_line word base length =
    joined (word ∷ codes " 0x" ∷ hex base ∷ codes " length " ∷ decimal length ∷ codes "\n" ∷ [])

-- a range of an address space of a type
unfoldable pub space_line : AddressWidth → ℕ → ℕ → ℕ → ℕ → List ℕ
space_line width kind minimum maximum length =
    joined (width_text width ∷ codes " space type " ∷ decimal kind ∷ codes " 0x" ∷ hex minimum
    ∷ codes " 0x" ∷ hex maximum ∷ codes " length " ∷ decimal length ∷ codes "\n" ∷ [])

-- the line of an item
abbrev pub item_line : Item → List ℕ
item_line (item.Irq mask signal) = interrupts_line (codes "irq") (numbers_text (irqs mask)) signal
item_line (item.Io minimum maximum alignment length) =
    placed_line (codes "io") minimum maximum alignment length
item_line (item.FixedIo base length) = fixed_line (codes "fixed-io") base length
item_line item.End = codes "end\n"
item_line (item.Memory minimum maximum alignment length) =
    placed_line (codes "memory") minimum maximum alignment length
item_line (item.FixedMemory base length) = fixed_line (codes "fixed-memory") base length
item_line (item.AddressSpace width kind granularity minimum maximum translation length) =
    space_line width kind minimum maximum length
item_line (item.Interrupt signal numbers) =
    interrupts_line (codes "interrupt") (numbers_text numbers) signal
item_line (item.Other tag length) = fixed_line (codes "other") tag length

-- the lines of items, one after the other
abbrev pub items_text : List Item → List ℕ
items_text items = flat_map item_line items

-- the line of a route
unfoldable pub route_line : Route → List ℕ
route_line route =
    joined (codes "0x" ∷ hex route.address ∷ codes " " ∷ pin_text route.pin ∷ codes " "
    ∷ decimal route.interrupt.number ∷ codes " " ∷ trigger_text route.interrupt.trigger ∷ codes " "
    ∷ polarity_text route.interrupt.polarity ∷ codes "\n" ∷ [])

-- the lines of routes, one after the other
abbrev pub routes_text : List Route → List ℕ
routes_text routes = flat_map route_line routes
