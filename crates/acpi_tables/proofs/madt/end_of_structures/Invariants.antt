use Rattle.std.proofs.Common.{◌≡◌, ◌+◌, ◌-◌, ◌≤◌, length, drop}
use Rattle.std.specs.List.{sum_by}
use Rattle.acpi_tables.specs.Structure.{structures}
use Rattle.acpi_tables.specs.Madt.{structures_end}
use Rattle.acpi_tables.proofs.madt.end_of_structures.Given as goal

-- from here the structures reach the same end
abbrev pub invariant-loop-structure : goal.invariant-loop-structure
invariant-loop-structure l =
    (l.at ≤ length l.bytes)
    × (structures_end l.bytes ≡ l.at + sum_by length (structures (drop l.at l.bytes)))

abbrev pub decreases-loop-structure : goal.decreases-loop-structure
decreases-loop-structure l = length l.bytes - l.at
