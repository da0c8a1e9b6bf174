use Rattle.std.proofs.Common.{ℕ, List, Bor, Some, None, inl, map, option_map}
use Rattle.aml_namespace.specs.Shows.{shown}
use Rattle.aml_regions.specs.Registers.{contents}
use Rattle.aml_signatures.specs.Signed.{kinds_told}
use Rattle.aml_values.specs.Views as values
use Rattle.acpi_sources.specs.Inputs.{tables_of}
use Rattle.acpi_listing.specs.Loading.{interfaces_of}
use Rattle.acpi_listing.proofs.Evaluations.{after_find, known_texts, no_method, no_tables}
use Rattle.acpi_listing.proofs.eval.evaluate_inputs.Goals as goal

abbrev now : Bor (List ℕ) → List ℕ
now text = text.now

pub returns-in_err-known : goal.returns-in_err-known
returns-in_err-known g c =
    no_tables (contents c.args.setup.registers.file) (kinds_told c.args.signatures.now) c.args.request.now.method.now (map values.view c.args.setup.arguments.items) c.args.request.now.steps
    (interfaces_of (option_map now c.args.request.now.osi)) (tables_of c.args.inputs.now) _ _ c.from_residual.result c.from_residual.ensures.1 (inl c.in_err-known.ensures.fault)

pub returns-in_err-namespace : goal.returns-in_err-namespace
returns-in_err-namespace g c =
    no_tables (contents c.args.setup.registers.file) (kinds_told c.args.signatures.now) c.args.request.now.method.now (map values.view c.args.setup.arguments.items) c.args.request.now.steps
    (interfaces_of (option_map now c.args.request.now.osi)) (tables_of c.args.inputs.now) _ _ c.from_residual-in_err-namespace.result c.from_residual-in_err-namespace.ensures.1
    c.in_err-namespace.ensures

pub returns-in_err-id : goal.returns-in_err-id
returns-in_err-id g c =
    no_method (contents c.args.setup.registers.file) (kinds_told c.args.signatures.now) c.args.request.now.method.now (map values.view c.args.setup.arguments.items) c.args.request.now.steps
    (interfaces_of (option_map now c.args.request.now.osi)) (tables_of c.args.inputs.now) (shown c.in_ok-namespace.namespace) _ _ c.from_residual-in_err-id.result c.from_residual-in_err-id.ensures.1
    (known_texts _ _ _ _ _ c.as_slice.ensures.value c.in_ok-known.ensures.known c.in_ok-namespace.ensures) c.in_err-id.ensures.none

pub returns-in-Some : goal.returns-in-Some
returns-in-Some g c = rw c.in-Some.is
    (after_find (contents c.args.setup.registers.file) (kinds_told c.args.signatures.now) c.args.request.now.method.now (map values.view c.args.setup.arguments.items) (Some c.in-Some.steps)
    (interfaces_of (option_map now c.args.request.now.osi)) (tables_of c.args.inputs.now) (shown c.in_ok-namespace.namespace) c.in_ok-id.id.0 c.in_ok-id.method _ _ _
    (known_texts _ _ _ _ _ c.as_slice.ensures.value c.in_ok-known.ensures.known c.in_ok-namespace.ensures) c.in_ok-id.ensures.found c.evaluate_method.ensures)

pub returns : goal.returns
returns g c = rw c.in-None.is
    (after_find (contents c.args.setup.registers.file) (kinds_told c.args.signatures.now) c.args.request.now.method.now (map values.view c.args.setup.arguments.items) None
    (interfaces_of (option_map now c.args.request.now.osi)) (tables_of c.args.inputs.now) (shown c.in_ok-namespace.namespace) c.in_ok-id.id.0 c.in_ok-id.method _ _ _
    (known_texts _ _ _ _ _ c.as_slice.ensures.value c.in_ok-known.ensures.known c.in_ok-namespace.ensures) c.in_ok-id.ensures.found c.evaluate_judged.ensures)
