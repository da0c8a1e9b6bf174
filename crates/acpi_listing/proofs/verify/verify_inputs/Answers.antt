use Rattle.aml_namespace.specs.Shows.{shown}
use Rattle.aml_signatures.specs.Signed.{kinds_told}
use Rattle.acpi_sources.specs.Inputs.{tables_of}
use Rattle.acpi_listing.proofs.Judgements.{load_judged, no_judged_load}
use Rattle.acpi_listing.proofs.verify.verify_inputs.Goals as goal

pub returns-in_err-namespace : goal.returns-in_err-namespace
returns-in_err-namespace g c =
    no_judged_load (kinds_told c.args.signatures.now) (tables_of c.args.inputs.now) _ _ c.from_residual.result c.from_residual.ensures.1 c.in_err-namespace.ensures

pub returns : goal.returns
returns g c =
    load_judged (kinds_told c.args.signatures.now) (tables_of c.args.inputs.now) (shown c.in_ok-namespace.namespace) _ _ c.verify_loaded.result
    c.in_ok-namespace.ensures c.verify_loaded.ensures
