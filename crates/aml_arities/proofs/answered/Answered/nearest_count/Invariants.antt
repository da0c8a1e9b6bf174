use Rattle.std.proofs.Common.{◌≡◌, ◌<◌, length}
use Rattle.aml_arities.specs.Counted.{all_paths, told}
use Rattle.aml_paths.specs.Paths.{path_at}
use Rattle.aml_paths.specs.Resolve.{upward_search}
use Rattle.aml_arities.proofs.answered.Answered.nearest_count.Given as goal

-- the search goes on from the path that was reached
abbrev pub invariant-up : goal.invariant-up
invariant-up l = record {
  there : l.number < length (all_paths l.self.counted);
  left : upward_search (told l.self.counted) (path_at (all_paths l.self.counted) l.fn.at) l.segment.bytes ≡ upward_search (told l.self.counted) (path_at (all_paths l.self.counted) l.number) l.segment.bytes;
}

abbrev pub decreases-up : goal.decreases-up
decreases-up l = l.number
