use Rattle.std.proofs.Common.{drop}
use Rattle.std.specs.List.{flat_map}
use Rattle.acpi_text.proofs.Listing.{Listed}
use Rattle.acpi_resource_text.specs.Lines.{item_line, items_text}
use Rattle.acpi_resource_text.proofs.resources.list_resources.Given as goal

-- the lines before were appended, and the others are left
abbrev pub invariant-loop-item : goal.invariant-loop-item
invariant-loop-item g l =
    Listed (items_text l.items) (flat_map item_line (drop l.item-index l.items))
    (g.W.Write.contents l.initial.out) (g.W.Write.contents l.out)
