use Rattle.std.proofs.Common.{length}
use Rattle.acpi_text.proofs.Listing.{Listed}
use Rattle.acpi_text.proofs.writing.put.Given as goal

abbrev pub invariant-loop-rest : goal.invariant-loop-rest
invariant-loop-rest g l = Listed l.fn.text l.rest (g.W.Write.contents l.initial.out) (g.W.Write.contents l.out)

abbrev pub decreases-loop-rest : goal.decreases-loop-rest
decreases-loop-rest g l = length l.rest
