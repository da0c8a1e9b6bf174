use Rattle.std.proofs.Common.{refl}
use Rattle.acpi_text.specs.Outcome.{refusal_line}
use Rattle.aml_namespace.specs.Shows.{shown}
use Rattle.acpi_listing.specs.Commands.{printed_path}
use Rattle.acpi_listing.proofs.Chains.{half_told, told}
use Rattle.acpi_listing.proofs.eval.print_refusal.Goals as goal
use Rattle.acpi_sources.specs.declared.status.Status.TheVariants as exit

pub returns-in_err-list_refusal : goal.returns-in_err-list_refusal
returns-in_err-list_refusal g c =
    let path = printed_path (shown c.args.namespace.now) c.args.id.0 in
    half_told tt _ _ (refusal_line path c.args.table c.args.refusal) exit.Refused _ c.from_residual.result c.from_residual.ensures.1 c.in_err-list_refusal.ensures

pub returns : goal.returns
returns g c =
    let path = printed_path (shown c.args.namespace.now) c.args.id.0 in
    told tt _ _ (refusal_line path c.args.table c.args.refusal) exit.Refused exit.Refused refl c.in_ok-list_refusal.ensures
