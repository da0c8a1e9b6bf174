use Rattle.std.proofs.Common.{◌≡◌, ◌-◌, ◌<◌, ◌≤◌, drop, length, option_and_then}
use Rattle.aml_paths.specs.Paths.{path_number, number_below}
use Rattle.aml_paths.specs.Printed.{segments_in}
use Rattle.aml_paths.specs.Steps.{paths_seen}
use Rattle.aml_paths.proofs.paths.Paths.printed_below_root.Given as goal

-- what is left of the text leads on from the path that was reached
abbrev pub invariant-loop-at : goal.invariant-loop-at
invariant-loop-at l = record {
  there : l.number < length (paths_seen l.self);
  within : l.at ≤ length l.text;
  left : option_and_then (path_number (paths_seen l.self)) (segments_in l.text) ≡ option_and_then (number_below (paths_seen l.self) l.number) (segments_in (drop l.at l.text));
}

abbrev pub decreases-loop-at : goal.decreases-loop-at
decreases-loop-at l = length l.text - l.at
