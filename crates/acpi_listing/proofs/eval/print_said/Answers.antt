use Rattle.std.proofs.Common.{refl}
use Rattle.acpi_verdicts.specs.Verdicts.{said_text}
use Rattle.acpi_listing.proofs.Chains.{half_told, told}
use Rattle.acpi_listing.proofs.eval.print_said.Goals as goal
use Rattle.acpi_sources.specs.declared.status.Status.TheVariants as exit

pub returns-in_err-list_said : goal.returns-in_err-list_said
returns-in_err-list_said g c =
    half_told tt _ _ (said_text c.args.checked.now c.args.id) exit.Refused _ c.from_residual.result c.from_residual.ensures.1 c.in_err-list_said.ensures

pub returns : goal.returns
returns g c =
    told tt _ _ (said_text c.args.checked.now c.args.id) exit.Refused exit.Refused refl c.in_ok-list_said.ensures
