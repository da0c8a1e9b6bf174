use Rattle.std.proofs.Common.{◌+◌, ◌++◌, ap, ◌∙◌, sym, append_assoc, drop}
use Rattle.std.specs.List.{flat_map}
use Rattle.acpi_text.proofs.NameLemmas.{next_item}
use Rattle.acpi_verdicts.specs.Totals.{cause_line}
use Rattle.acpi_verdicts.proofs.totals.push_causes.Goals as goal

pub loop-cause-preserved : goal.loop-cause-preserved
loop-cause-preserved c =
    let line_of = cause_line c.args.checked.now in
    let causes = c.args.causes.now in
    let before = c.loop-cause.text.items in
    let rest = flat_map line_of (drop (c.loop-cause.cause-index + 1) causes) in
    let counted = rw c.count_of.ensures.count at c.in_ok-push_count.ensures in
    let line = rw c.cause_text-why.ensures at counted in
    ap (λ text. text ++ rest) line
    ∙ append_assoc before _ rest
    ∙ ap (λ lines. before ++ lines) (sym (next_item line_of causes c.loop-cause.cause-index _ c.loop-cause-test.true))
    ∙ c.loop-cause.invariant
