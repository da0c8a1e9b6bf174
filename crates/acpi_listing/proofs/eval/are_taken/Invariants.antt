use Rattle.std.proofs.Common.{◌≡◌, map, drop}
use Rattle.aml_values.specs.Views.{view}
use Rattle.acpi_listing.specs.Commands.{are_taken}
use Rattle.acpi_listing.proofs.eval.are_taken.Given as goal

-- the values so far are taken, so that all hangs on those that are left
abbrev pub invariant-loop-value : goal.invariant-loop-value
invariant-loop-value l = are_taken l.fn.width (map view l.values) ≡ are_taken l.fn.width (map view (drop l.value-index l.values))
