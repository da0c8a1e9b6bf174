use Rattle.std.proofs.Common.{length, ◌-◌, ◌≡◌, ◌≤◌, ℕ, ◌+◌, take, drop}
use Rattle.aml_externals.specs.Opened.{joined, opened, opened_until}
use Rattle.aml_externals.proofs.open.+open_list.Given as goal

abbrev pub decreases-open_list : goal.decreases-open_list
decreases-open_list l = l.depth

-- what is opened and what is left are the whole
abbrev pub invariant-loop-at : goal.invariant-loop-at
invariant-loop-at l = (n : ℕ) × (length l.list ≤ l.at + n) × (l.at ≤ length l.list) × (l.count ≤ l.at) × (length l.list ≡ length l.fn.list)
    × (opened l.depth l.fn.list ≡ joined (take l.at l.list, l.count) (opened_until (opened (l.depth - 1)) l.depth n (drop l.at l.list)))

abbrev pub decreases-loop-at : goal.decreases-loop-at
decreases-loop-at l = length l.list - l.at
