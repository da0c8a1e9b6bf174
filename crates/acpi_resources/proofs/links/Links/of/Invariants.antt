use Rattle.std.proofs.Common.{◌≡◌, ◌≤◌, ℕ, drop, length, slice_index}
use Rattle.std.specs.BTreeMap.{get}
use Rattle.std.specs.Option.{option_map}
use Rattle.std.specs.Ordering.{nat_cmp}
use Rattle.acpi_resources.specs.Interrupts.{crs_of_links, items_of_device, link_interrupt}
use Rattle.acpi_resources.proofs.links.Links.of.Given as goal

-- the links from there on are looked up
abbrev pub invariant-loop-left : goal.invariant-loop-left
invariant-loop-left l =
    (l.left ≤ length l.links)
    × ((device : ℕ) → get nat_cmp l.interrupts device
    ≡ option_map (link_interrupt (slice_index l.isa.numbers)) (items_of_device (crs_of_links (drop l.left l.links)) device))

abbrev pub decreases-loop-left : goal.decreases-loop-left
decreases-loop-left l = l.left
