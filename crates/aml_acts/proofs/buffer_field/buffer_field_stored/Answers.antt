use Rattle.std.proofs.lemmas.Result.{err_from_is_err_and}
use Rattle.aml_meaning.proofs.Runs.{runs_stop, runs_stop_with, runs_then}
use Rattle.aml_acts.proofs.buffer_field.buffer_field_stored.Goals as goal

pub returns-in-Some-clause-means : goal.returns-in-Some-clause-means
returns-in-Some-clause-means c = λ call log. rw c.in-Some.is (c.put_buffer_field.ensures.means log)

pub returns-in_err-take_step-in-None-clause-means : goal.returns-in_err-take_step-in-None-clause-means
returns-in_err-take_step-in-None-clause-means c = λ call log.
    let p = err_from_is_err_and c.from_residual.result c.from_residual.ensures.1 in
    rw (c.in-None.is, p.1, p.2) (runs_stop _ (c.in_err-take_step-in-None.ensures.means _))

pub returns-in_ok-take_step-in-None-clause-means : goal.returns-in_ok-take_step-in-None-clause-means
returns-in_ok-take_step-in-None-clause-means c = λ call log.
    rw (c.in-None.is, c.fails.ensures) (runs_then _ (c.in_ok-take_step-in-None.ensures.means _) (runs_stop_with _ _))
