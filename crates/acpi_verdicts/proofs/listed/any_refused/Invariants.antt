use Rattle.std.proofs.Common.{◌≡◌, drop}
use Rattle.std.specs.List.{list_any}
use Rattle.aml_paths.specs.declared.scope.ObjectId.{ObjectId}
use Rattle.acpi_verdicts.specs.Verdicts.{any_refused, is_refused, said_of}
use Rattle.acpi_verdicts.proofs.listed.any_refused.Given as goal

-- none of the methods before is refused, so that all hangs on those that are left
abbrev pub invariant-loop-id : goal.invariant-loop-id
invariant-loop-id l =
    any_refused l.checked ≡ list_any (λ (id : ObjectId). is_refused (said_of l.checked id.0)) (drop l.id-index l.id-items)
