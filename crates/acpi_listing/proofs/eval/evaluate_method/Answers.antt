use Rattle.std.proofs.Common.{◌≡◌, Result, Err, ap, map, refl, true}
use Rattle.acpi_listing.specs.Commands.{Takes}
use Rattle.acpi_sources.specs.Faults.{nowhere}
use Rattle.acpi_sources.specs.declared.fault.FaultCause.TheVariants as cause
use Rattle.acpi_listing.specs.declared.stop.Stop.{Stop}
use Rattle.acpi_listing.specs.declared.stop.Stop.TheVariants.{Fault as Faulty}
use Rattle.aml_bodies.proofs.Methods.{are_statements}
use Rattle.aml_namespace.specs.Shows.{shown}
use Rattle.aml_operators.specs.Tree.{view}
use Rattle.aml_regions.specs.EventViews.{events_of}
use Rattle.aml_regions.specs.Registers.{contents}
use Rattle.aml_values.specs.Views as values
use Rattle.acpi_listing.proofs.Evaluations.{after_body, after_outcome, no_body, no_fit, no_outcome}
use Rattle.acpi_listing.proofs.eval.evaluate_method.Goals as goal
use Rattle.acpi_sources.specs.declared.status.Status.{Status}

pub returns-in-Err-NoMemory : goal.returns-in-Err-NoMemory
returns-in-Err-NoMemory g c =
    let r : Result Status Stop = Err (Faulty c.nowhere.result) in
    no_body (contents c.args.setup.registers.file) (shown c.args.namespace.now) c.args.id.0 c.args.method (map values.view c.args.setup.arguments.items) c.args.steps
    _ (nowhere cause.NoMemory) r (ap (λ f. Faulty f) c.nowhere.ensures) refl

pub returns-in-Err-Refused : goal.returns-in-Err-Refused
returns-in-Err-Refused g c =
    let refused = rw c.in-Err-Refused.field-0-is at (c.in-Err-Refused.ensures c.args.method c.requires.there) in
    after_body (contents c.args.setup.registers.file) (shown c.args.namespace.now) c.args.id.0 c.args.method (map values.view c.args.setup.arguments.items) c.args.steps
    (Err c.in-Err-Refused.refusal) _ _ _ refused c.print_refusal.ensures

pub returns-then-not-fits : goal.returns-then-not-fits
returns-then-not-fits g c =
    let ns = shown c.args.namespace.now in
    let arguments = map values.view c.args.setup.arguments.items in
    let refuses : Takes ns c.args.method arguments → ⊥ =
    λ takes. let fits : c.fits.result ≡ true = (rw c.deref.ensures.value at c.fits.ensures).1 takes in absurd (cc (fits, c.if-not-fits.true)) in
    let r : Result Status Stop = Err (Faulty c.nowhere-then-not-fits.result) in
    no_fit (contents c.args.setup.registers.file) ns c.args.id.0 c.args.method arguments c.args.steps (map view c.in-Ok.body.items) (c.in-Ok.ensures c.args.method c.requires.there)
    _ (nowhere cause.ArgsDontFit) r (ap (λ f. Faulty f) c.nowhere-then-not-fits.ensures) (refuses, refl)

-- the body that is evaluated was read
pub outcome_of-requires-clause-read : goal.outcome_of-requires-clause-read
outcome_of-requires-clause-read g c = are_statements (shown c.args.namespace.now) c.args.id.0 _ c.in-Ok.ensures

pub returns-in_err-outcome : goal.returns-in_err-outcome
returns-in_err-outcome g c =
    no_outcome (contents c.args.setup.registers.file) (shown c.args.namespace.now) c.args.id.0 c.args.method (map values.view c.args.setup.arguments.items) c.args.steps
    (map view c.in-Ok.body.items) (c.in-Ok.ensures c.args.method c.requires.there) _ _ c.from_residual.result c.from_residual.ensures.1
    ((rw c.deref.ensures.value at c.fits.ensures).0 c.if-not-fits.false) (c.in_err-outcome.ensures c.args.method c.requires.there)

pub returns : goal.returns
returns g c =
    let meant = rw (← c.events.ensures) at (c.in_ok-outcome.ensures c.args.method c.requires.there) in
    after_outcome (contents c.args.setup.registers.file) (shown c.args.namespace.now) c.args.id.0 c.args.method (map values.view c.args.setup.arguments.items) c.args.steps
    (map view c.in-Ok.body.items) (c.in-Ok.ensures c.args.method c.requires.there) (c.in_ok-outcome.outcome, events_of c.events.result.now) _ _ _
    ((rw c.deref.ensures.value at c.fits.ensures).0 c.if-not-fits.false) meant c.print_outcome.ensures
