use Rattle.std.proofs.Common.{option_map}
use Rattle.acpi_listing.proofs.Judgements.{inputs_judged, no_judged_inputs, no_kinds}
use Rattle.acpi_listing.proofs.verify.verify_files.Goals as goal

pub returns-in_err-signatures : goal.returns-in_err-signatures
returns-in_err-signatures g c =
    let request = c.args.request.now in
    let kinds = option_map (λ name. name.now) request.kinds in
    no_kinds g.F.Source.answers _ _ request.inputs kinds _ _ c.from_residual.result c.from_residual.ensures.1 c.in_err-signatures.ensures

pub returns-in_err-inputs : goal.returns-in_err-inputs
returns-in_err-inputs g c =
    let request = c.args.request.now in
    let kinds = option_map (λ name. name.now) request.kinds in
    no_judged_inputs g.F.Source.answers _ _ _ request.inputs kinds c.in_ok-signatures.signatures _ _ c.from_residual-in_err-inputs.result
    c.from_residual-in_err-inputs.ensures.1 c.in_ok-signatures.ensures c.in_err-inputs.ensures

pub returns : goal.returns
returns g c =
    let request = c.args.request.now in
    let kinds = option_map (λ name. name.now) request.kinds in
    inputs_judged g.F.Source.answers _ _ _ request.inputs kinds c.in_ok-signatures.signatures c.in_ok-inputs.inputs _ _ c.verify_inputs.result
    c.in_ok-signatures.ensures c.in_ok-inputs.ensures c.verify_inputs.ensures
