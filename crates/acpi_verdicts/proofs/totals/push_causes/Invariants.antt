use Rattle.std.proofs.Common.{◌≡◌, ◌++◌, drop}
use Rattle.std.specs.List.{flat_map}
use Rattle.acpi_verdicts.specs.Totals.{cause_line}
use Rattle.acpi_verdicts.proofs.totals.push_causes.Given as goal

-- the lines of the causes before were added, and those of the others are left
abbrev pub invariant-loop-cause : goal.invariant-loop-cause
invariant-loop-cause l =
    l.text.items ++ flat_map (cause_line l.checked) (drop l.cause-index l.causes)
    ≡ l.initial.text.items ++ flat_map (cause_line l.checked) l.causes
