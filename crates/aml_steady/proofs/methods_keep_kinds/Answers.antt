use Rattle.aml_steady.proofs.KindsStay.{bodies_keep, keeps_framed, methods_keep, statements_keep}
use Rattle.aml_steady.proofs.methods_keep_kinds.Goals as goal

pub returns-clause-statements : goal.returns-clause-statements
returns-clause-statements c = statements_keep

pub returns-clause-bodies : goal.returns-clause-bodies
returns-clause-bodies c = bodies_keep

pub returns-clause-methods : goal.returns-clause-methods
returns-clause-methods c = methods_keep

pub returns-clause-frames : goal.returns-clause-frames
returns-clause-frames c = keeps_framed
