use Rattle.std.proofs.Common.{◌≡◌, ◌+◌, ◌≤◌, drop}
use Rattle.std.specs.Prelude.{count_by}
use Rattle.std.specs.Str.{bytes_eq}
use Rattle.aml_paths.specs.declared.scope.ObjectId.{ObjectId}
use Rattle.acpi_verdicts.specs.Totals.{count_of, why_text}
use Rattle.acpi_verdicts.specs.Verdicts.{said_of}
use Rattle.acpi_verdicts.proofs.totals.count_of.Given as goal

-- the methods before are counted, and those that are left are still to be
abbrev pub invariant-loop-id : goal.invariant-loop-id
invariant-loop-id l =
    (l.count + count_by (λ (id : ObjectId). bytes_eq (why_text (said_of l.checked id.0)) l.why) (drop l.id-index l.id-items)
    ≡ count_of l.checked l.why)
    × (l.count ≤ l.id-index)
