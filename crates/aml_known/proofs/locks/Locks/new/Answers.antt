use Rattle.aml_known.proofs.Takings.{says_nothing}
use Rattle.aml_known.proofs.locks.Locks.new.Goals as goal

pub returns-clause-read : goal.returns-clause-read
returns-clause-read c = rw c.new.ensures.items says_nothing
