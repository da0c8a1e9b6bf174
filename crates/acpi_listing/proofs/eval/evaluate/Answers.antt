use Rattle.std.proofs.Common.{option_map, map}
use Rattle.aml_values.specs.Views.{view}
use Rattle.acpi_listing.proofs.Evaluations.{no_arguments, no_registers, no_signatures, no_inputs, inputs_evaluated}
use Rattle.acpi_listing.proofs.eval.evaluate.Goals as goal

pub returns-in_err-arguments : goal.returns-in_err-arguments
returns-in_err-arguments g c =
    let request = c.args.request.now in
    let args = option_map (λ text. text.now) request.args in
    let regs = option_map (λ name. name.now) request.regs in
    let kinds = option_map (λ name. name.now) request.kinds in
    let osi = option_map (λ text. text.now) request.osi in
    no_arguments g.F.Source.answers c.args.files.now request.inputs request.method.now args regs kinds request.steps osi _ _ c.from_residual.result
    c.from_residual.ensures.1 c.in_err-arguments.ensures

pub returns-in_err-registers : goal.returns-in_err-registers
returns-in_err-registers g c =
    let request = c.args.request.now in
    let args = option_map (λ text. text.now) request.args in
    let regs = option_map (λ name. name.now) request.regs in
    let kinds = option_map (λ name. name.now) request.kinds in
    let osi = option_map (λ text. text.now) request.osi in
    no_registers g.F.Source.answers c.args.files.now _ request.inputs request.method.now args regs kinds (map view c.in_ok-arguments.arguments.items) request.steps osi _ _ c.from_residual-in_err-registers.result
    c.from_residual-in_err-registers.ensures.1 c.in_ok-arguments.ensures c.in_err-registers.ensures.read

pub returns-in_err-signatures : goal.returns-in_err-signatures
returns-in_err-signatures g c =
    let request = c.args.request.now in
    let args = option_map (λ text. text.now) request.args in
    let regs = option_map (λ name. name.now) request.regs in
    let kinds = option_map (λ name. name.now) request.kinds in
    let osi = option_map (λ text. text.now) request.osi in
    no_signatures g.F.Source.answers c.args.files.now _ _ request.inputs request.method.now args regs kinds (map view c.in_ok-arguments.arguments.items) c.in_ok-registers.registers request.steps osi _ _ c.from_residual-in_err-signatures.result
    c.from_residual-in_err-signatures.ensures.1 c.in_ok-arguments.ensures c.in_ok-registers.ensures.read c.in_err-signatures.ensures

pub returns-in_err-inputs : goal.returns-in_err-inputs
returns-in_err-inputs g c =
    let request = c.args.request.now in
    let args = option_map (λ text. text.now) request.args in
    let regs = option_map (λ name. name.now) request.regs in
    let kinds = option_map (λ name. name.now) request.kinds in
    let osi = option_map (λ text. text.now) request.osi in
    no_inputs g.F.Source.answers c.args.files.now _ _ _ request.inputs request.method.now args regs kinds (map view c.in_ok-arguments.arguments.items) c.in_ok-registers.registers c.in_ok-signatures.signatures request.steps osi _ _ c.from_residual-in_err-inputs.result
    c.from_residual-in_err-inputs.ensures.1 c.in_ok-arguments.ensures c.in_ok-registers.ensures.read c.in_ok-signatures.ensures c.in_err-inputs.ensures

pub returns : goal.returns
returns g c =
    let request = c.args.request.now in
    let args = option_map (λ text. text.now) request.args in
    let regs = option_map (λ name. name.now) request.regs in
    let kinds = option_map (λ name. name.now) request.kinds in
    let osi = option_map (λ text. text.now) request.osi in
    inputs_evaluated g.F.Source.answers c.args.files.now _ _ _ request.inputs request.method.now args regs kinds (map view c.in_ok-arguments.arguments.items) c.in_ok-registers.registers c.in_ok-signatures.signatures c.in_ok-inputs.inputs request.steps osi _ _ c.evaluate_inputs.result
    c.in_ok-arguments.ensures c.in_ok-registers.ensures.read c.in_ok-signatures.ensures c.in_ok-inputs.ensures c.evaluate_inputs.ensures
