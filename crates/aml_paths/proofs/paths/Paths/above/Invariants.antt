use Rattle.std.proofs.Common.{◌≡◌, ◌<◌, length}
use Rattle.aml_paths.specs.Paths.{number_above}
use Rattle.aml_paths.specs.Steps.{paths_seen}
use Rattle.aml_paths.proofs.paths.Paths.above.Given as goal

-- the carets that are left lead on from the path that was reached
abbrev pub invariant-loop-left : goal.invariant-loop-left
invariant-loop-left l = record {
  there : l.number < length (paths_seen l.self);
  above : number_above (paths_seen l.self) l.fn.at l.fn.carets ≡ number_above (paths_seen l.self) l.number l.left;
}

abbrev pub decreases-loop-left : goal.decreases-loop-left
decreases-loop-left l = l.left
