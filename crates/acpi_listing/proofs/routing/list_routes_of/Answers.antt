use Rattle.std.proofs.Common.{Option, option_map, subst}
use Rattle.acpi_tables.specs.declared.madt.Madt.{Madt}
use Rattle.aml_regions.specs.Registers.{contents}
use Rattle.aml_signatures.specs.Signed.{kinds_told}
use Rattle.acpi_listing.specs.Commands.{RoutesTables}
use Rattle.acpi_sources.specs.Inputs.{tables_of}
use Rattle.acpi_listing.specs.Madt.{lent}
use Rattle.acpi_listing.specs.Steps.{Writes}
use Rattle.acpi_listing.proofs.RoutesListed.{inputs_routed, no_controllers, no_inputs, no_kinds, no_madt, no_registers}
use Rattle.acpi_listing.proofs.routing.list_routes_of.Goals as goal

pub returns-in_err-registers : goal.returns-in_err-registers
returns-in_err-registers g c =
    let asked = c.args.request.now.asked in
    let regs = option_map (λ name. name.now) asked.regs in
    let kinds = option_map (λ name. name.now) asked.kinds in
    let controllers = option_map (λ name. name.now) c.args.request.now.madt in
    no_registers g.F.Source.answers c.args.files.now asked.inputs asked.object.now regs kinds controllers _ _ _ c.from_residual.result
    c.from_residual.ensures.1 c.in_err-registers.ensures.read

pub returns-in_err-signatures : goal.returns-in_err-signatures
returns-in_err-signatures g c =
    let asked = c.args.request.now.asked in
    let regs = option_map (λ name. name.now) asked.regs in
    let kinds = option_map (λ name. name.now) asked.kinds in
    let controllers = option_map (λ name. name.now) c.args.request.now.madt in
    no_kinds g.F.Source.answers c.args.files.now asked.inputs asked.object.now regs kinds controllers _ c.in_ok-registers.registers c.in_ok-registers.ensures.read
    _ _ _ c.from_residual-in_err-signatures.result c.from_residual-in_err-signatures.ensures.1 c.in_err-signatures.ensures

pub returns-in_err-controllers : goal.returns-in_err-controllers
returns-in_err-controllers g c =
    let asked = c.args.request.now.asked in
    let regs = option_map (λ name. name.now) asked.regs in
    let kinds = option_map (λ name. name.now) asked.kinds in
    let controllers = option_map (λ name. name.now) c.args.request.now.madt in
    no_controllers g.F.Source.answers c.args.files.now asked.inputs asked.object.now regs kinds controllers _ c.in_ok-registers.registers c.in_ok-registers.ensures.read
    _ c.in_ok-signatures.signatures c.in_ok-signatures.ensures
    _ _ _ c.from_residual-in_err-controllers.result c.from_residual-in_err-controllers.ensures.1 c.in_err-controllers.ensures

pub returns-in_err-madt : goal.returns-in_err-madt
returns-in_err-madt g c =
    let asked = c.args.request.now.asked in
    let regs = option_map (λ name. name.now) asked.regs in
    let kinds = option_map (λ name. name.now) asked.kinds in
    let controllers = option_map (λ name. name.now) c.args.request.now.madt in
    no_madt g.F.Source.answers c.args.files.now asked.inputs asked.object.now regs kinds controllers _ c.in_ok-registers.registers c.in_ok-registers.ensures.read
    _ c.in_ok-signatures.signatures c.in_ok-signatures.ensures _ (lent c.in_ok-controllers.controllers) c.in_ok-controllers.ensures
    _ _ c.from_residual-in_err-madt.result c.from_residual-in_err-madt.ensures.1 c.in_err-madt.ensures

pub returns-in_err-inputs : goal.returns-in_err-inputs
returns-in_err-inputs g c =
    let asked = c.args.request.now.asked in
    let regs = option_map (λ name. name.now) asked.regs in
    let kinds = option_map (λ name. name.now) asked.kinds in
    let controllers = option_map (λ name. name.now) c.args.request.now.madt in
    no_inputs g.F.Source.answers c.args.files.now asked.inputs asked.object.now regs kinds controllers _ c.in_ok-registers.registers c.in_ok-registers.ensures.read
    _ c.in_ok-signatures.signatures c.in_ok-signatures.ensures _ (lent c.in_ok-controllers.controllers) c.in_ok-controllers.ensures
    c.in_ok-madt.madt c.in_ok-madt.ensures
    _ _ _ c.from_residual-in_err-inputs.result c.from_residual-in_err-inputs.ensures.1 c.in_err-inputs.ensures

pub returns : goal.returns
returns g c =
    let asked = c.args.request.now.asked in
    let regs = option_map (λ name. name.now) asked.regs in
    let kinds = option_map (λ name. name.now) asked.kinds in
    let controllers = option_map (λ name. name.now) c.args.request.now.madt in
    let registers = c.in_ok-registers.registers in
    let told = kinds_told c.in_ok-signatures.signatures in
    -- what was lent is the MADT that was read
    let lists = λ (madt : Option Madt).
    Writes (RoutesTables (contents registers.file) told madt asked.object.now (tables_of c.in_ok-inputs.inputs)) (tt {0}) (tt {0})
    (g.W.Write.contents c.args.out.now) (g.W.Write.contents c.list_inputs.new.out) c.list_inputs.result in
    let listed = subst lists c.as_ref.ensures.value c.list_inputs.ensures in
    inputs_routed g.F.Source.answers c.args.files.now asked.inputs asked.object.now regs kinds controllers _ c.in_ok-registers.registers c.in_ok-registers.ensures.read
    _ c.in_ok-signatures.signatures c.in_ok-signatures.ensures _ (lent c.in_ok-controllers.controllers) c.in_ok-controllers.ensures
    c.in_ok-madt.madt c.in_ok-madt.ensures
    _ c.in_ok-inputs.inputs (g.W.Write.contents c.args.out.now) (g.W.Write.contents c.list_inputs.new.out) c.list_inputs.result c.in_ok-inputs.ensures listed
