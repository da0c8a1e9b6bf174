use Rattle.std.proofs.Common.{[], refl}
use Rattle.std.proofs.KnownBytes.{Appends-nil}
use Rattle.acpi_text.proofs.Listing.{stopped, lists_then}
use Rattle.acpi_text.proofs.tables.list_xsdt.Goals as goal

pub returns-in_err-list_header : goal.returns-in_err-list_header
returns-in_err-list_header g c =
    stopped _ c.from_residual.result _ _ _ [] _ _ _ c.from_residual.ensures.0 (Appends-nil _) c.in_err-list_header.ensures refl

pub returns : goal.returns
returns g c =
    lists_then c.list_items.result _ _ _ _ _ c.in_ok-list_header.ensures (rw c.entries.ensures at c.list_items.ensures)
