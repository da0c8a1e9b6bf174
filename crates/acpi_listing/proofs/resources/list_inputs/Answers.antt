use Rattle.aml_namespace.specs.Shows.{shown}
use Rattle.aml_regions.specs.Registers.{contents}
use Rattle.aml_signatures.specs.Signed.{kinds_told}
use Rattle.acpi_sources.specs.Inputs.{tables_of}
use Rattle.acpi_listing.proofs.GivenListed.{load_listed, no_listed_load}
use Rattle.acpi_listing.proofs.resources.list_inputs.Goals as goal

pub returns-in_err-namespace : goal.returns-in_err-namespace
returns-in_err-namespace g c =
    no_listed_load (contents c.args.registers.file) (kinds_told c.args.signatures.now) c.args.request.now.object.now (tables_of c.args.inputs.now)
    _ _ c.from_residual.result c.from_residual.ensures.1 c.in_err-namespace.ensures

pub returns : goal.returns
returns g c =
    load_listed (contents c.args.registers.file) (kinds_told c.args.signatures.now) c.args.request.now.object.now (tables_of c.args.inputs.now)
    (shown c.in_ok-namespace.namespace) _ _ c.list_loaded.result c.in_ok-namespace.ensures c.list_loaded.ensures
