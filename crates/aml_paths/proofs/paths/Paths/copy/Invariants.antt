use Rattle.std.proofs.Common.{◌≡◌, take}
use Rattle.aml_paths.specs.Steps.{paths_seen}
use Rattle.aml_paths.specs.Trie.{paths_of}
use Rattle.aml_paths.proofs.paths.Paths.copy.Given as goal

-- the paths so far are those of the first steps
abbrev pub invariant-loop-step : goal.invariant-loop-step
invariant-loop-step l = record {
  items : l.step-items ≡ l.self.steps.items;
  made : paths_seen l.paths ≡ paths_of (take l.step-index l.self.steps.items);
}
