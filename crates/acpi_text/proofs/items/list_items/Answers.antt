use Rattle.acpi_text.proofs.Listing.{more_listed, stopped_listed}
use Rattle.acpi_text.proofs.items.list_items.Goals as goal

pub loop-item-preserved : goal.loop-item-preserved
loop-item-preserved g c =
    more_listed _ _ (g.met.I.Listing.begins _ _ _ c.in-Some.ensures.steps) c.loop-item.invariant c.in_ok-list.ensures

pub returns-in_err-list : goal.returns-in_err-list
returns-in_err-list g c =
    stopped_listed c.from_residual.result _ _ _ c.from_residual.ensures.0
    (g.met.I.Listing.begins _ _ _ c.in-Some.ensures.steps) c.loop-item.invariant c.in_err-list.ensures
