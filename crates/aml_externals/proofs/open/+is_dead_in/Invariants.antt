use Rattle.std.proofs.Common.{◌+◌, ◌-◌, ◌≡◌, ◌≤◌, length, ℕ, drop}
use Rattle.aml_externals.specs.Opened.{dead_in, dead_until}
use Rattle.aml_externals.proofs.open.+is_dead_in.Given as goal

abbrev pub decreases-is_dead_in : goal.decreases-is_dead_in
decreases-is_dead_in l = l.depth

-- what is left is the whole
abbrev pub invariant-loop-at : goal.invariant-loop-at
invariant-loop-at l = (n : ℕ) × (length l.list ≤ l.at + n) × (l.at ≤ length l.list) × (dead_in l.depth l.list l.place ≡ dead_until (dead_in (l.depth - 1)) l.depth n (drop l.at l.list) l.left)

abbrev pub decreases-loop-at : goal.decreases-loop-at
decreases-loop-at l = length l.list - l.at
