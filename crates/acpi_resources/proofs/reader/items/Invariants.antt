use Rattle.std.proofs.Common.{length, ◌-◌, ◌≡◌, ◌≤◌, ◌+◌, ℕ, drop}
use Rattle.acpi_resources.specs.Items.{items_from, items_of}
use Rattle.acpi_resources.proofs.Ahead.{ahead}
use Rattle.acpi_resources.proofs.reader.items.Given as goal

-- the items that were read and those that are left are all of them
abbrev pub invariant-loop-at : goal.invariant-loop-at
invariant-loop-at l =
    (l.at ≤ length l.bytes)
    × (n : ℕ) × (length l.bytes ≤ l.at + n)
    × (ahead l.items.items (items_from n l.at (drop l.at l.bytes)) ≡ items_of l.bytes)

abbrev pub decreases-loop-at : goal.decreases-loop-at
decreases-loop-at l = length l.bytes - l.at
