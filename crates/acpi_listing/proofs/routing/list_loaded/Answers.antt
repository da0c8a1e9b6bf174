use Rattle.std.proofs.Common.{◌≡◌, option_map, subst, sym, true}
use Rattle.acpi_objects.specs.Gives.{gives_value}
use Rattle.aml_objects.specs.Entries.{object_at}
use Rattle.aml_namespace.specs.Load.{Shown}
use Rattle.aml_namespace.specs.Shows.{shown}
use Rattle.aml_regions.specs.Registers.{contents}
use Rattle.aml_signatures.specs.Signed.{kinds_told}
use Rattle.acpi_listing.proofs.RoutesListed.{no_object, no_verdicts, not_given, prt_listed}
use Rattle.acpi_listing.proofs.routing.list_loaded.Goals as goal

pub returns-in_err-id : goal.returns-in_err-id
returns-in_err-id g c =
    no_object (contents c.args.registers.file) (kinds_told c.args.signatures.now) (option_map (λ m. m.now) c.args.madt)
    c.args.request.now.asked.object.now (shown c.args.namespace.now)
    _ _ c.from_residual.result c.from_residual.ensures.1 (λ id. c.in_err-id.ensures.none id, c.in_err-id.ensures.fault)

pub returns-in_err-checked : goal.returns-in_err-checked
returns-in_err-checked g c =
    no_verdicts (contents c.args.registers.file) (kinds_told c.args.signatures.now) (option_map (λ m. m.now) c.args.madt)
    c.args.request.now.asked.object.now (shown c.args.namespace.now)
    c.in_ok-id.id.0 c.in_ok-id.ensures.found
    _ _ c.from_residual-in_err-checked.result c.from_residual-in_err-checked.ensures.1 c.in_err-checked.ensures.fault

-- the verdicts are the verifier's, and the object gives a value
pub prt_over-requires-clause-checked : goal.prt_over-requires-clause-checked
prt_over-requires-clause-checked g c = record { told = kinds_told c.args.signatures.now; checked = c.in_ok-checked.ensures.verdicts.0 }

pub prt_over-requires-clause-gives : goal.prt_over-requires-clause-gives
prt_over-requires-clause-gives g c =
    subst (λ (n : Shown). gives_value (object_at n.entries c.in_ok-id.id.0) ≡ true) (sym c.in_ok-checked.ensures.verdicts.1) c.in_ok-id.ensures.found.1

pub returns-in_err-prt : goal.returns-in_err-prt
returns-in_err-prt g c =
    not_given (contents c.args.registers.file) (kinds_told c.args.signatures.now) (option_map (λ m. m.now) c.args.madt)
    c.args.request.now.asked.object.now (shown c.args.namespace.now)
    c.in_ok-id.id.0 c.in_ok-id.ensures.found c.in_ok-checked.checked c.in_ok-checked.ensures.verdicts
    _ _ c.from_residual-in_err-prt.result c.from_residual-in_err-prt.ensures.1 c.in_err-prt.ensures

pub returns : goal.returns
returns g c =
    prt_listed (contents c.args.registers.file) (kinds_told c.args.signatures.now) (option_map (λ m. m.now) c.args.madt)
    c.args.request.now.asked.object.now (shown c.args.namespace.now)
    c.in_ok-id.id.0 c.in_ok-id.ensures.found c.in_ok-checked.checked c.in_ok-checked.ensures.verdicts
    c.in_ok-prt.prt _ _ c.list_prt.result c.in_ok-prt.ensures c.list_prt.ensures
