use Rattle.std.proofs.Common.{◌≡◌, map, take}
use Rattle.aml_operators.specs.Tree.{view}
use Rattle.aml_own_names.specs.OwnNames.{own_names}
use Rattle.aml_own_names.proofs.own_names.own_names.Given as goal

-- what the first statements make
abbrev pub invariant-loop-term : goal.invariant-loop-term
invariant-loop-term l = l.owns.items ≡ own_names l.bytes (map view (take l.term-index l.body))
