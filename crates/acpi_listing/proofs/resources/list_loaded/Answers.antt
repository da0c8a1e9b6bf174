use Rattle.std.proofs.Common.{◌≡◌, subst, sym, true}
use Rattle.acpi_objects.specs.Gives.{gives_value}
use Rattle.aml_objects.specs.Entries.{object_at}
use Rattle.aml_namespace.specs.Load.{Shown}
use Rattle.aml_namespace.specs.Shows.{shown}
use Rattle.aml_regions.specs.Registers.{contents}
use Rattle.aml_signatures.specs.Signed.{kinds_told}
use Rattle.acpi_listing.proofs.GivenListed.{given_listed, no_object, no_verdicts, not_given}
use Rattle.acpi_listing.proofs.resources.list_loaded.Goals as goal

pub returns-in_err-id : goal.returns-in_err-id
returns-in_err-id g c =
    no_object (contents c.args.registers.file) (kinds_told c.args.signatures.now) c.args.request.now.object.now (shown c.args.namespace.now)
    _ _ c.from_residual.result c.from_residual.ensures.1 (λ id. c.in_err-id.ensures.none id, c.in_err-id.ensures.fault)

pub returns-in_err-checked : goal.returns-in_err-checked
returns-in_err-checked g c =
    no_verdicts (contents c.args.registers.file) (kinds_told c.args.signatures.now) c.args.request.now.object.now (shown c.args.namespace.now)
    c.in_ok-id.id.0 c.in_ok-id.ensures.found
    _ _ c.from_residual-in_err-checked.result c.from_residual-in_err-checked.ensures.1 c.in_err-checked.ensures.fault

-- the verdicts are the verifier's, and the object gives a value
pub given_over-requires-clause-checked : goal.given_over-requires-clause-checked
given_over-requires-clause-checked g c = record { told = kinds_told c.args.signatures.now; checked = c.in_ok-checked.ensures.verdicts.0 }

pub given_over-requires-clause-gives : goal.given_over-requires-clause-gives
given_over-requires-clause-gives g c =
    subst (λ (n : Shown). gives_value (object_at n.entries c.in_ok-id.id.0) ≡ true) (sym c.in_ok-checked.ensures.verdicts.1) c.in_ok-id.ensures.found.1

pub returns-in_err-given : goal.returns-in_err-given
returns-in_err-given g c =
    not_given (contents c.args.registers.file) (kinds_told c.args.signatures.now) c.args.request.now.object.now (shown c.args.namespace.now)
    c.in_ok-id.id.0 c.in_ok-id.ensures.found c.in_ok-checked.checked c.in_ok-checked.ensures.verdicts
    _ _ c.from_residual-in_err-given.result c.from_residual-in_err-given.ensures.1 c.in_err-given.ensures

pub returns : goal.returns
returns g c =
    given_listed (contents c.args.registers.file) (kinds_told c.args.signatures.now) c.args.request.now.object.now (shown c.args.namespace.now)
    c.in_ok-id.id.0 c.in_ok-id.ensures.found c.in_ok-checked.checked c.in_ok-checked.ensures.verdicts
    c.in_ok-given.given _ _ c.list_given.result c.in_ok-given.ensures c.list_given.ensures
