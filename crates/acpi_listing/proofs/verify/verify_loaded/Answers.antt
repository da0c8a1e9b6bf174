use Rattle.aml_namespace.specs.Shows.{shown}
use Rattle.aml_signatures.specs.Signed.{kinds_told}
use Rattle.acpi_listing.proofs.Judgements.{no_verdicts, verdicts_listed}
use Rattle.acpi_listing.proofs.verify.verify_loaded.Goals as goal

pub returns-in_err-checked : goal.returns-in_err-checked
returns-in_err-checked g c =
    no_verdicts (kinds_told c.args.signatures.now) (shown c.args.namespace.now) _ _ c.from_residual.result c.from_residual.ensures.1 c.in_err-checked.ensures.fault

pub returns : goal.returns
returns g c =
    verdicts_listed (kinds_told c.args.signatures.now) (shown c.args.namespace.now) c.in_ok-checked.checked _ _ c.print_verdicts.result
    c.in_ok-checked.ensures.verdicts c.print_verdicts.ensures
