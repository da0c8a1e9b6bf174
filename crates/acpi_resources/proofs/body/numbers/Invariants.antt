use Rattle.std.proofs.Common.{length, ◌-◌, ◌≡◌, ◌≤◌, ◌*◌, ◌++◌, drop}
use Rattle.acpi_resources.specs.Items.{interrupts}
use Rattle.acpi_resources.proofs.body.numbers.Given as goal

-- the numbers that were read and those that are left are all of them
abbrev pub invariant-loop-numbers : goal.invariant-loop-numbers
invariant-loop-numbers l =
    (length l.numbers.items ≤ l.count)
    × (l.numbers.items ++ interrupts (l.count - length l.numbers.items) (drop (4 * length l.numbers.items) l.bytes) ≡ interrupts l.count l.bytes)

abbrev pub decreases-loop-numbers : goal.decreases-loop-numbers
decreases-loop-numbers l = l.count - length l.numbers.items
