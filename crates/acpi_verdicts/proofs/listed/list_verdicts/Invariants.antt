use Rattle.std.proofs.Common.{drop}
use Rattle.std.specs.List.{flat_map}
use Rattle.acpi_text.proofs.Listing.{Listed}
use Rattle.acpi_verdicts.specs.Verdicts.{said_text, verdicts_text}
use Rattle.acpi_verdicts.proofs.listed.list_verdicts.Given as goal

-- the lines of the methods before were appended, and those of the others are left
abbrev pub invariant-loop-id : goal.invariant-loop-id
invariant-loop-id g l =
    Listed (verdicts_text l.checked) (flat_map (said_text l.checked) (drop l.id-index l.id-items))
    (g.W.Write.contents l.initial.out) (g.W.Write.contents l.out)
