use Rattle.std.proofs.lemmas.Result.{err_from_is_err_and}
use Rattle.aml_meaning.proofs.Runs.{runs_stop, runs_stop_with, runs_then}
use Rattle.aml_acts.proofs.define.make_field.Goals as goal

pub returns-in_default-clause-means : goal.returns-in_default-clause-means
returns-in_default-clause-means c = λ call log. rw (c.in_default.is, c.fails.ensures) (runs_stop_with _ _)

pub returns-in_default-index-clause-means : goal.returns-in_default-index-clause-means
returns-in_default-index-clause-means c = λ call log.
    rw (c.in-Some.is, c.in_default-index.is, c.fails-in_default-index.ensures) (runs_stop_with _ _)

pub returns-in_default-size-clause-means : goal.returns-in_default-size-clause-means
returns-in_default-size-clause-means c = λ call log.
    rw (c.in-Some.is, c.in-Some-index.is, c.in_default-size.is, c.fails-in_default-size.ensures) (runs_stop_with _ _)

pub returns-in_err-source-clause-means : goal.returns-in_err-source-clause-means
returns-in_err-source-clause-means c = λ call log.
    let p = err_from_is_err_and c.from_residual.result c.from_residual.ensures.1 in
    rw (c.in-Some.is, c.in-Some-index.is, c.in-Some-size.is, p.1, p.2) (runs_stop _ (rw c.link_of.ensures at (c.in_err-source.ensures call log)))

pub returns-clause-means : goal.returns-clause-means
returns-clause-means c = λ call log.
    rw (c.in-Some.is, c.in-Some-index.is, c.in-Some-size.is)
    (runs_then _ (rw c.link_of.ensures at (c.in_ok-source.ensures call log)) (rw c.made_buffer_field-field.ensures at (c.define_field.ensures.means log)))
