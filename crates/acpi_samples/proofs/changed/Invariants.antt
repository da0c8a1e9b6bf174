use Rattle.std.proofs.Common.{◌≡◌, length}
use Rattle.acpi_samples.proofs.changed.Given as goal

abbrev pub invariant-loop-place : goal.invariant-loop-place
invariant-loop-place l = length l.changed.items ≡ length l.initial.changed.items
