use Rattle.acpi_text.proofs.Listing.{more_listed, stopped_listed}
use Rattle.acpi_text.proofs.NameLemmas.{next_item}
use Rattle.acpi_verdicts.specs.Verdicts.{said_text}
use Rattle.acpi_verdicts.proofs.listed.list_verdicts.Goals as goal

pub loop-id-preserved : goal.loop-id-preserved
loop-id-preserved g c =
    more_listed _ _ (next_item (said_text c.args.checked.now) c.methods-id-items.result.now c.loop-id.id-index _ c.loop-id-test.true)
    c.loop-id.invariant c.in_ok-list_said.ensures

pub returns-in_err-list_said : goal.returns-in_err-list_said
returns-in_err-list_said g c =
    stopped_listed c.from_residual.result _ _ _ c.from_residual.ensures.0
    (next_item (said_text c.args.checked.now) c.methods-id-items.result.now c.loop-id.id-index _ c.loop-id-test.true)
    c.loop-id.invariant c.in_err-list_said.ensures
