use Rattle.acpi_text.specs.Names.{names_text}
use Rattle.aml_namespace.specs.Shows.{shown}
use Rattle.acpi_listing.proofs.Chains.{half_told, told}
use Rattle.acpi_listing.proofs.Evaluations.{names_listed, no_names, no_namespace}
use Rattle.std.proofs.Common.{Ok, refl}
use Rattle.acpi_listing.proofs.names.list_names_of.Goals as goal
use Rattle.acpi_sources.specs.declared.status.Status.TheVariants as exit

pub returns-in_err-inputs : goal.returns-in_err-inputs
returns-in_err-inputs g c =
    no_names g.F.Source.answers _ _ c.args.names.now _ _ c.from_residual.result c.from_residual.ensures.1 c.in_err-inputs.ensures

pub returns-in_err-namespace : goal.returns-in_err-namespace
returns-in_err-namespace g c =
    no_namespace g.F.Source.answers _ _ c.args.names.now c.in_ok-inputs.inputs _ _ c.from_residual-in_err-namespace.result
    c.from_residual-in_err-namespace.ensures.1 c.in_ok-inputs.ensures c.in_err-namespace.ensures

pub returns-in_err-list_names : goal.returns-in_err-list_names
returns-in_err-list_names g c =
    let ns = shown c.in_ok-namespace.namespace in
    names_listed g.F.Source.answers _ _ c.args.names.now c.in_ok-inputs.inputs ns _ _ c.from_residual-in_err-list_names.result
    c.in_ok-inputs.ensures c.in_ok-namespace.ensures
    (half_told c.read.new.files _ _ (names_text ns) exit.Done _ c.from_residual-in_err-list_names.result c.from_residual-in_err-list_names.ensures.1 c.in_err-list_names.ensures)

pub returns : goal.returns
returns g c =
    let ns = shown c.in_ok-namespace.namespace in
    names_listed g.F.Source.answers _ _ c.args.names.now c.in_ok-inputs.inputs ns _ _ (Ok exit.Done)
    c.in_ok-inputs.ensures c.in_ok-namespace.ensures (told c.read.new.files _ _ (names_text ns) exit.Done exit.Done refl c.in_ok-list_names.ensures)
