use Rattle.std.proofs.Common.{map, take}
use Rattle.aml_arities.specs.Counted.{TellsAll}
use Rattle.aml_paths.specs.Steps.{paths_seen}
use Rattle.aml_arities.proofs.counted.Counted.of.Given as goal

-- what the first declarations tell
abbrev pub invariant-loop-external : goal.invariant-loop-external
invariant-loop-external l = TellsAll (map (λ t. t.now) l.tables) (paths_seen l.paths) (take l.external-index l.externals) l.counted
