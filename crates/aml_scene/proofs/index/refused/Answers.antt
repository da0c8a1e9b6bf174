use Rattle.std.proofs.lemmas.Result.{err_from_is_err_and}
use Rattle.aml_meaning.proofs.Runs.{runs_stop, runs_stop_with, runs_then}
use Rattle.aml_scene.proofs.index.refused.Goals as goal

pub returns-in_err-take_step-clause-means : goal.returns-in_err-take_step-clause-means
returns-in_err-take_step-clause-means c = λ call log.
    let p = err_from_is_err_and c.from_residual.result c.from_residual.ensures.1 in
    rw (p.1, p.2) (runs_stop _ (c.in_err-take_step.ensures.means log))

pub returns-clause-means : goal.returns-clause-means
returns-clause-means c = λ call log. rw c.fails.ensures (runs_then _ (c.in_ok-take_step.ensures.means log) (runs_stop_with _ _))
