use Rattle.acpi_verdicts.specs.Verdicts.{verdicts_text}
use Rattle.acpi_listing.specs.Commands.{verdicts_status}
use Rattle.acpi_listing.proofs.Chains.{half_told, told}
use Rattle.acpi_listing.proofs.verify.print_verdicts.Goals as goal

pub returns-in_err-list_verdicts : goal.returns-in_err-list_verdicts
returns-in_err-list_verdicts g c =
    half_told tt _ _ (verdicts_text c.args.checked.now) (verdicts_status c.args.checked.now) _ c.from_residual.result c.from_residual.ensures.1 c.in_err-list_verdicts.ensures

pub returns : goal.returns
returns g c =
    told tt _ _ (verdicts_text c.args.checked.now) (verdicts_status c.args.checked.now) c.status_of.result c.status_of.ensures c.in_ok-list_verdicts.ensures
