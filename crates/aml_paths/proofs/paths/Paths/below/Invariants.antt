use Rattle.std.proofs.Common.{◌≡◌, ◌<◌, length, drop, take}
use Rattle.aml_lex.specs.Names.{name_of}
use Rattle.aml_paths.specs.Paths.{number_below}
use Rattle.aml_paths.specs.Steps.{paths_seen}
use Rattle.aml_paths.proofs.paths.Paths.below.Given as goal

-- what is left of the segments leads on from the path that was reached
abbrev pub invariant-loop-i : goal.invariant-loop-i
invariant-loop-i l = record {
  there : l.number < length (paths_seen l.self);
  left : number_below (paths_seen l.self) l.fn.at (take l.count (name_of l.name).segs) ≡ number_below (paths_seen l.self) l.number (drop l.i (take l.count (name_of l.name).segs));
}
