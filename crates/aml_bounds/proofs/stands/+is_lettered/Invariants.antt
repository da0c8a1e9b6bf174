use Rattle.std.proofs.Common.{length}
use Rattle.aml_bounds.proofs.stands.+is_lettered.Given as goal

-- fewer letters are left
abbrev pub decreases-is_lettered : goal.decreases-is_lettered
decreases-is_lettered l = length l.letters.now
