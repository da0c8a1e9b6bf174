use Rattle.std.proofs.Common.{refl}
use Rattle.acpi_text.proofs.Listing.{more_listed, none_listed, stopped_listed}
use Rattle.acpi_text.proofs.NameLemmas.{next_held}
use Rattle.acpi_resource_text.specs.Lines.{item_line}
use Rattle.acpi_resource_text.proofs.resources.list_resources.Goals as goal

pub loop-item-init : goal.loop-item-init
loop-item-init g c = none_listed refl

pub loop-item-preserved : goal.loop-item-preserved
loop-item-preserved g c =
    let begins = next_held item_line c.args.items.now c.loop-item.item-index c.item-item.result c.loop-item-test.true c.item-item.is in
    more_listed _ _ begins c.loop-item.invariant c.in_ok-list_item.ensures

pub returns-in_err-list_item : goal.returns-in_err-list_item
returns-in_err-list_item g c =
    let begins = next_held item_line c.args.items.now c.loop-item.item-index c.item-item.result c.loop-item-test.true c.item-item.is in
    stopped_listed c.from_residual.result _ _ _ c.from_residual.ensures.0 begins c.loop-item.invariant c.in_err-list_item.ensures
