use Rattle.std.proofs.Common.{[], refl}
use Rattle.std.proofs.KnownBytes.{Appends-nil}
use Rattle.acpi_text.proofs.Listing.{stopped, lists_then}
use Rattle.acpi_text.proofs.tables.list_madt.Goals as goal

pub returns-in_err-list_header : goal.returns-in_err-list_header
returns-in_err-list_header g c =
    stopped _ c.from_residual.result _ _ _ [] _ _ _ c.from_residual.ensures.0 (Appends-nil _) c.in_err-list_header.ensures refl

pub returns-in_err-list_interrupt_fields : goal.returns-in_err-list_interrupt_fields
returns-in_err-list_interrupt_fields g c =
    stopped _ c.from_residual-in_err-list_interrupt_fields.result _ _ _ _ _ _ _
    c.from_residual-in_err-list_interrupt_fields.ensures.0 c.in_ok-list_header.ensures c.in_err-list_interrupt_fields.ensures refl

pub returns : goal.returns
returns g c =
    lists_then c.list_items.result _ _ _ _ _ c.in_ok-list_header.ensures
    (lists_then c.list_items.result _ _ _ _ _ c.in_ok-list_interrupt_fields.ensures (rw c.entries.ensures at c.list_items.ensures))
