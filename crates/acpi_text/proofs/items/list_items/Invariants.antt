use Rattle.acpi_text.proofs.Listing.{Listed}
use Rattle.acpi_text.proofs.items.list_items.Given as goal

-- the texts of the items before were appended, and those of the others are left
abbrev pub invariant-loop-item : goal.invariant-loop-item
invariant-loop-item g l =
    Listed (g.I.Listing.left l.fn.items) (g.I.Listing.left l.item-iterator)
    (g.W.Write.contents l.initial.out) (g.W.Write.contents l.out)
