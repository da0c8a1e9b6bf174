use Rattle.std.proofs.Common.{suc, ◌-◌, length}
use Rattle.aml_paths.proofs.Chained.{Noted}
use Rattle.aml_paths.proofs.chains.note_last.Given as goal

-- no more is said of the paths before
abbrev pub invariant-reach : goal.invariant-reach
invariant-reach l = Noted l.initial.lasts.items l.lasts.items l.number

abbrev pub decreases-reach : goal.decreases-reach
decreases-reach l = suc l.number - length l.lasts.items
