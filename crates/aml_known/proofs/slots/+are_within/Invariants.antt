use Rattle.std.proofs.Common.{length}
use Rattle.aml_known.proofs.slots.+are_within.Given as goal

-- fewer slots are left
abbrev pub decreases-are_within : goal.decreases-are_within
decreases-are_within l = length l.others.now
