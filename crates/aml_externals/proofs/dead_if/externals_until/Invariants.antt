use Rattle.std.proofs.Common.{length, ◌-◌, ◌≡◌, ◌≤◌, ℕ, ◌+◌}
use Rattle.aml_externals.specs.DeadIfs.{externals_until}
use Rattle.aml_externals.proofs.dead_if.externals_until.Given as goal

-- what is left is the whole
abbrev pub invariant-loop-at : goal.invariant-loop-at
invariant-loop-at l = (n : ℕ) × (length l.bytes ≤ l.at + n) × (l.at ≤ length l.bytes) × (externals_until (length l.bytes) l.bytes l.start ≡ externals_until n l.bytes l.at)

abbrev pub decreases-loop-at : goal.decreases-loop-at
decreases-loop-at l = length l.bytes - l.at
