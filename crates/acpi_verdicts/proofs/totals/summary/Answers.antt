use Rattle.std.proofs.Common.{◌++◌, [], ap, ap₂, ◌∙◌, length}
use Rattle.aml_objects.specs.LookUp.{methods_in}
use Rattle.aml_namespace.specs.Shows.{shown}
use Rattle.acpi_verdicts.specs.Totals.{count_line, totals_line, unreadable}
use Rattle.acpi_verdicts.proofs.Lines.{three_behind}
use Rattle.acpi_verdicts.proofs.totals.summary.Goals as goal

pub returns-clause-text : goal.returns-clause-text
returns-clause-text c =
    let count = ap length c.methods-count.ensures ∙ ap (λ ns. length (methods_in (shown ns.now).entries)) c.namespace.ensures in
    let totals = c.as_bytes.ensures.value ∙ c.in_ok-totals.ensures ∙ ap₂ totals_line count c.count_of.ensures.count in
    let first = c.in_ok-extend_from_slice.ensures.items ∙ ap₂ (λ a b. a ++ b) c.new-text.ensures.items totals in
    let last = c.in_ok-push_count.ensures ∙ ap (λ n. c.push_causes.new.text.items ++ count_line unreadable n) c.count_of-2.ensures.count in
    three_behind [] _ _ _ _ _ _ first c.in_ok-push_causes.ensures last
