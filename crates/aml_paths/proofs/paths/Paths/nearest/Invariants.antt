use Rattle.std.proofs.Common.{◌≡◌, ◌<◌, length}
use Rattle.aml_paths.specs.Steps.{paths_seen}
use Rattle.aml_paths.proofs.Nearest.{search_from}
use Rattle.aml_paths.proofs.paths.Paths.nearest.Given as goal

-- the search goes on from the path that was reached
abbrev pub invariant-up : goal.invariant-up
invariant-up l = record {
  there : l.number < length (paths_seen l.self);
  left : search_from (paths_seen l.self) l.segment.bytes l.fn.at ≡ search_from (paths_seen l.self) l.segment.bytes l.number;
}

abbrev pub decreases-up : goal.decreases-up
decreases-up l = l.number
