use Rattle.std.proofs.Common.{take}
use Rattle.aml_own_names.specs.OwnNames.{HasFirsts}
use Rattle.aml_own_names.proofs.own_names.firsts_of.Given as goal

-- the first names are numbered
abbrev pub invariant-loop-number : goal.invariant-loop-number
invariant-loop-number l = HasFirsts l.firsts (take l.number l.owns)
