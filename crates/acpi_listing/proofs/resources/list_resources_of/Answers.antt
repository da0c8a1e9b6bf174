use Rattle.std.proofs.Common.{option_map}
use Rattle.acpi_listing.proofs.GivenListed.{inputs_listed, no_inputs, no_kinds, no_registers}
use Rattle.acpi_listing.proofs.resources.list_resources_of.Goals as goal

pub returns-in_err-registers : goal.returns-in_err-registers
returns-in_err-registers g c =
    let request = c.args.request.now in
    let regs = option_map (λ name. name.now) request.regs in
    let kinds = option_map (λ name. name.now) request.kinds in
    no_registers g.F.Source.answers c.args.files.now request.inputs request.object.now regs kinds _ _ _ c.from_residual.result
    c.from_residual.ensures.1 c.in_err-registers.ensures.read

pub returns-in_err-signatures : goal.returns-in_err-signatures
returns-in_err-signatures g c =
    let request = c.args.request.now in
    let regs = option_map (λ name. name.now) request.regs in
    let kinds = option_map (λ name. name.now) request.kinds in
    no_kinds g.F.Source.answers c.args.files.now request.inputs request.object.now regs kinds _ c.in_ok-registers.registers c.in_ok-registers.ensures.read
    _ _ _ c.from_residual-in_err-signatures.result c.from_residual-in_err-signatures.ensures.1 c.in_err-signatures.ensures

pub returns-in_err-inputs : goal.returns-in_err-inputs
returns-in_err-inputs g c =
    let request = c.args.request.now in
    let regs = option_map (λ name. name.now) request.regs in
    let kinds = option_map (λ name. name.now) request.kinds in
    no_inputs g.F.Source.answers c.args.files.now request.inputs request.object.now regs kinds _ c.in_ok-registers.registers c.in_ok-registers.ensures.read
    _ c.in_ok-signatures.signatures c.in_ok-signatures.ensures
    _ _ _ c.from_residual-in_err-inputs.result c.from_residual-in_err-inputs.ensures.1 c.in_err-inputs.ensures

pub returns : goal.returns
returns g c =
    let request = c.args.request.now in
    let regs = option_map (λ name. name.now) request.regs in
    let kinds = option_map (λ name. name.now) request.kinds in
    inputs_listed g.F.Source.answers c.args.files.now request.inputs request.object.now regs kinds _ c.in_ok-registers.registers c.in_ok-registers.ensures.read
    _ c.in_ok-signatures.signatures c.in_ok-signatures.ensures
    _ c.in_ok-inputs.inputs _ _ c.list_inputs.result c.in_ok-inputs.ensures c.list_inputs.ensures
