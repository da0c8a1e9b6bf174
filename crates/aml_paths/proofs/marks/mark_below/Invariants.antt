use Rattle.std.proofs.Common.{◌≡◌, ℕ, suc, ◌-◌, length, slice_index}
use Rattle.aml_paths.proofs.marks.mark_below.Given as goal

-- behind the marks that were there stands none
abbrev pub invariant-reach : goal.invariant-reach
invariant-reach l = (t : ℕ) → slice_index l.marks.items t ≡ slice_index l.initial.marks.items t

abbrev pub decreases-reach : goal.decreases-reach
decreases-reach l = suc l.top - length l.marks.items
