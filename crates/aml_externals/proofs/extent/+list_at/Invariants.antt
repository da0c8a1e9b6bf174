use Rattle.std.proofs.Common.{length}
use Rattle.aml_externals.proofs.extent.+list_at.Given as goal

abbrev pub decreases-list_at : goal.decreases-list_at
decreases-list_at l = length l.letters.now
