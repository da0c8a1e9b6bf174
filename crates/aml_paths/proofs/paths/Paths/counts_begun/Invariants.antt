use Rattle.std.proofs.Common.{◌≡◌, ◌≤◌, length}
use Rattle.aml_paths.specs.Steps.{paths_seen}
use Rattle.aml_paths.proofs.paths.Paths.counts_begun.Given as goal

-- as many counts as paths
abbrev pub invariant-loop-number : goal.invariant-loop-number
invariant-loop-number l = record {
  within : l.number ≤ length (paths_seen l.self);
  all : length l.counts.items ≡ length (paths_seen l.self);
}

abbrev pub decreases-loop-number : goal.decreases-loop-number
decreases-loop-number l = l.number
