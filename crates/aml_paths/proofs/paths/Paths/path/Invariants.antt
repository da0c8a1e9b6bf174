use Rattle.std.proofs.Common.{◌≡◌, ◌<◌, ◌++◌, length, reverse, slice_get, Some}
use Rattle.aml_paths.specs.Paths.{path_at}
use Rattle.aml_paths.specs.Steps.{path_seen, paths_seen}
use Rattle.aml_paths.proofs.paths.Paths.path.Given as goal

-- the path that was reached, and the segments behind it, which stand in reverse
abbrev pub invariant-loop-number : goal.invariant-loop-number
invariant-loop-number l = record {
  there : l.number < length (paths_seen l.self);
  behind : slice_get (paths_seen l.self) l.fn.at ≡ Some (path_at (paths_seen l.self) l.number ++ path_seen (reverse l.segments.items));
}

abbrev pub decreases-loop-number : goal.decreases-loop-number
decreases-loop-number l = l.number
