use Rattle.std.proofs.Common.{length}
use Rattle.aml_machine.proofs.elements.+inner.Given as goal

-- a number less each time
abbrev pub decreases-inner : goal.decreases-inner
decreases-inner l = length l.path.now
