use Rattle.std.proofs.Common.{length}
use denote.Text.{Utf8}
use denote.Shadow.{shadow}
use Rattle.acpi_notes.proofs.near.front_there.Given as goal

abbrev pub invariant-loop-before : goal.invariant-loop-before
invariant-loop-before l = shadow (Utf8 l.front)

abbrev pub decreases-loop-before : goal.decreases-loop-before
decreases-loop-before l = length l.front
