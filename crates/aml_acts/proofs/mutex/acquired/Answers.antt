use Rattle.std.proofs.lemmas.Result.{err_from_is_err_and}
use Rattle.aml_meaning.proofs.Runs.{runs_give, runs_stop, runs_then}
use Rattle.aml_acts.proofs.mutex.acquired.Goals as goal

pub returns-in_err-mutex-clause-means : goal.returns-in_err-mutex-clause-means
returns-in_err-mutex-clause-means c = λ call log.
    let p = err_from_is_err_and c.from_residual.result c.from_residual.ensures.1 in
    rw (p.1, p.2) (runs_stop _ (c.in_err-mutex.ensures.means call log))

pub returns-in_err-take-clause-means : goal.returns-in_err-take-clause-means
returns-in_err-take-clause-means c = λ call log.
    let p = err_from_is_err_and c.from_residual-in_err-take.result c.from_residual-in_err-take.ensures.1 in
    rw (p.1, p.2) (runs_then _ (c.in_ok-mutex.ensures.means call log) (runs_stop _ (c.in_err-take.ensures.means log)))

pub returns-clause-means : goal.returns-clause-means
returns-clause-means c = λ call log.
    (runs_then _ (c.in_ok-mutex.ensures.means call log) (runs_then _ (c.in_ok-take.ensures.means log) (runs_give _ _)))
