use Rattle.std.proofs.Common.{◌≡◌, length}
use Rattle.aml_paths.specs.Steps.{paths_seen}
use Rattle.aml_paths.proofs.paths.Paths.heaviest_below.Given as goal

-- as many numbers as paths
abbrev pub invariant-loop-number : goal.invariant-loop-number
invariant-loop-number l = record {
  most : length l.most.items ≡ length (paths_seen l.self);
  heaviest : length l.heaviest.items ≡ length (paths_seen l.self);
}
