use Rattle.std.proofs.Common.{◌≡◌, ◌∙◌, Some, ap, sym}
use Rattle.std.specs.Option.{option_map}
use Rattle.acpi_objects.proofs.NoArguments.{takes_none}
use Rattle.acpi_objects.proofs.given.value_of.Goals as goal
use Rattle.aml_verify.specs.Said.{verdict_at}
use Rattle.aml_verify.specs.declared.verdict.Verdict.TheVariants as verdict

-- what gives a value takes no arguments
pub evaluated-requires-clause-accepted : goal.evaluated-requires-clause-accepted
evaluated-requires-clause-accepted g c =
    let checked = c.requires.checked in
    let accepted = c.in-Some-Accepted.field-0-0 in
    let said : verdict_at c.args.checked.now.verdicts.items c.args.id.0 ≡ Some (verdict.Accepted accepted) =
    sym c.verdict.ensures ∙ ap (option_map (λ v. v.now)) c.in-Some-Accepted.is ∙ ap (λ v. Some v) c.in-Some-Accepted.field-0-is in
    takes_none checked.told c.args.checked.now checked.checked c.args.id.0 accepted said c.requires.gives
