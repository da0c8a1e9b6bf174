use Rattle.std.proofs.Common.{length}
use Rattle.aml_judging.proofs.calls.+are_within.Given as goal

-- fewer kinds are left
abbrev pub decreases-are_within : goal.decreases-are_within
decreases-are_within g l = length l.given.now
