use Rattle.std.proofs.Common.{length}
use Rattle.aml_verify.proofs.accepts.+misfit_from.Given as goal

abbrev pub decreases-misfit_from : goal.decreases-misfit_from
decreases-misfit_from l = length l.kinds.now
