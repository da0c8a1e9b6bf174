use Rattle.std.proofs.Common.{◌≡◌, ◌∙◌, Some, Result, Ok, Err, ap, map, false, refl, subst, sym, true}
use Rattle.acpi_listing.specs.Commands.{IsDone}
use Rattle.acpi_sources.specs.Faults.{nowhere}
use Rattle.acpi_sources.specs.declared.fault.FaultCause.TheVariants as cause
use Rattle.acpi_listing.specs.declared.stop.Stop.{Stop}
use Rattle.acpi_listing.specs.declared.stop.Stop.TheVariants.{Fault as Faulty}
use Rattle.aml_namespace.specs.Load.{Shown}
use Rattle.aml_namespace.specs.Names.{method_at}
use Rattle.aml_namespace.specs.Shows.{shown}
use Rattle.aml_regions.specs.Registers.{contents}
use Rattle.aml_signatures.specs.Signed.{kinds_told}
use Rattle.aml_values.specs.Views as values
use Rattle.aml_regions.specs.EventViews.{events_of}
use Rattle.acpi_listing.proofs.Evaluations.{accepted_there, all_fit_as, done, none_accepted, no_judgement, not_accepted, not_done, not_taken}
use Rattle.acpi_verdicts.specs.Verdicts.{said_of}
use Rattle.acpi_listing.proofs.eval.evaluate_judged.Goals as goal
use Rattle.acpi_sources.specs.declared.status.Status.{Status}

pub returns-in_err-checked : goal.returns-in_err-checked
returns-in_err-checked g c =
    no_judgement (contents c.args.setup.registers.file) (kinds_told c.args.signatures.now) (shown c.args.namespace.now) (map values.view c.args.setup.arguments.items) (c.args.id.0, c.args.method)
    _ _ c.from_residual.result c.from_residual.ensures.1 c.in_err-checked.ensures.fault

pub returns-then-not-is_accepted : goal.returns-then-not-is_accepted
returns-then-not-is_accepted g c =
    let refused : c.is_accepted.result ≡ false = cc c.if-not-is_accepted.true in
    not_accepted (contents c.args.setup.registers.file) (kinds_told c.args.signatures.now) (shown c.args.namespace.now) (map values.view c.args.setup.arguments.items) (c.args.id.0, c.args.method)
    c.in_ok-checked.checked c.in_ok-checked.ensures.verdicts _ _ c.print_said.result
    (none_accepted (said_of c.in_ok-checked.checked c.args.id.0) (sym c.is_accepted.ensures ∙ refused)) c.print_said.ensures

pub returns-then-not-accepts : goal.returns-then-not-accepts
returns-then-not-accepts g c =
    let is : c.is_accepted.result ≡ true = cc c.if-not-is_accepted.false in
    let accepted = accepted_there (said_of c.in_ok-checked.checked c.args.id.0) (sym c.is_accepted.ensures ∙ is) in
    let r : Result Status Stop = Err (Faulty c.nowhere.result) in
    let refuses : c.accepts.result ≡ false = cc c.if-not-accepts.true in
    not_taken (contents c.args.setup.registers.file) (kinds_told c.args.signatures.now) (shown c.args.namespace.now) (map values.view c.args.setup.arguments.items) (c.args.id.0, c.args.method)
    c.in_ok-checked.checked c.in_ok-checked.ensures.verdicts accepted.0 _ (nowhere cause.ArgsDontFit) r (ap (λ f. Faulty f) c.nowhere.ensures) accepted.1 (
      all_fit_as c.in_ok-checked.checked c.args.id.0 accepted.0 c.deref.result.now c.args.setup.arguments.items c.accepts.result false c.deref.ensures.value accepted.1
          (c.accepts.ensures.fits (kinds_told c.args.signatures.now) c.in_ok-checked.ensures.verdicts.0) refuses,
      refl,
    )

-- the verdicts are the verifier's, and its answer was that the arguments are taken
pub done_over-requires-clause-checked : goal.done_over-requires-clause-checked
done_over-requires-clause-checked g c = record { told = kinds_told c.args.signatures.now; checked = c.in_ok-checked.ensures.verdicts.0 }

pub done_over-requires-clause-accepted : goal.done_over-requires-clause-accepted
done_over-requires-clause-accepted g c =
    let does : c.accepts.result ≡ true = cc c.if-not-accepts.false in
    sym (rw c.deref.ensures.value at c.accepts.ensures.takes) ∙ does

pub returns-in_err-outcome : goal.returns-in_err-outcome
returns-in_err-outcome g c =
    let is : c.is_accepted.result ≡ true = cc c.if-not-is_accepted.false in
    let accepted = accepted_there (said_of c.in_ok-checked.checked c.args.id.0) (sym c.is_accepted.ensures ∙ is) in
    let does : c.accepts.result ≡ true = cc c.if-not-accepts.false in
    let takes = all_fit_as c.in_ok-checked.checked c.args.id.0 accepted.0 c.deref.result.now c.args.setup.arguments.items c.accepts.result true c.deref.ensures.value accepted.1
    (c.accepts.ensures.fits (kinds_told c.args.signatures.now) c.in_ok-checked.ensures.verdicts.0) does in
    not_done (contents c.args.setup.registers.file) (kinds_told c.args.signatures.now) (shown c.args.namespace.now) (map values.view c.args.setup.arguments.items) (c.args.id.0, c.args.method)
    c.in_ok-checked.checked c.in_ok-checked.ensures.verdicts accepted.0 _ _ c.from_residual-in_err-outcome.result c.from_residual-in_err-outcome.ensures.1 accepted.1 takes
    (c.in_err-outcome.ensures accepted.0 accepted.1 c.args.method
    (subst (λ (n : Shown). method_at n c.args.id.0 ≡ Some c.args.method) (sym c.in_ok-checked.ensures.verdicts.1) c.requires.there))

pub returns : goal.returns
returns g c =
    let is : c.is_accepted.result ≡ true = cc c.if-not-is_accepted.false in
    let accepted = accepted_there (said_of c.in_ok-checked.checked c.args.id.0) (sym c.is_accepted.ensures ∙ is) in
    let does : c.accepts.result ≡ true = cc c.if-not-accepts.false in
    let takes = all_fit_as c.in_ok-checked.checked c.args.id.0 accepted.0 c.deref.result.now c.args.setup.arguments.items c.accepts.result true c.deref.ensures.value accepted.1
    (c.accepts.ensures.fits (kinds_told c.args.signatures.now) c.in_ok-checked.ensures.verdicts.0) does in
    let there = subst (λ (n : Shown). method_at n c.args.id.0 ≡ Some c.args.method) (sym c.in_ok-checked.ensures.verdicts.1) c.requires.there in
    let gave = rw (← c.events.ensures) at (c.in_ok-outcome.ensures accepted.0 accepted.1 c.args.method there) in
    let ends = subst (λ (n : Shown).
    IsDone (contents c.args.setup.registers.file) n (c.args.id.0, c.args.method) (map values.view c.args.setup.arguments.items) accepted.0.bound
    (Ok (c.in_ok-outcome.outcome, events_of c.events.result.now))) c.in_ok-checked.ensures.verdicts.1 gave in
    done (contents c.args.setup.registers.file) (kinds_told c.args.signatures.now) (shown c.args.namespace.now) (map values.view c.args.setup.arguments.items) (c.args.id.0, c.args.method)
    c.in_ok-checked.checked c.in_ok-checked.ensures.verdicts accepted.0 (c.in_ok-outcome.outcome, events_of c.events.result.now) _ _ _ accepted.1 takes
    ends c.print_outcome.ensures
