use Rattle.std.proofs.lemmas.Result.{err_from_is_err_and}
use Rattle.aml_meaning.proofs.Runs.{runs_give, runs_stop, runs_then}
use Rattle.aml_scene.proofs.Ruled.{runs_rule}
use Rattle.aml_acts.proofs.field.field_read.Goals as goal

pub returns-in_err-field-clause-means : goal.returns-in_err-field-clause-means
returns-in_err-field-clause-means g c = λ call.
    let p = err_from_is_err_and c.from_residual.result c.from_residual.ensures.1 in
    rw (p.1, p.2) (runs_stop _ (runs_rule _ c.in_err-field.ensures.is))

pub returns-in_err-value-clause-means : goal.returns-in_err-value-clause-means
returns-in_err-value-clause-means g c = λ call.
    let p = err_from_is_err_and c.from_residual-in_err-value.result c.from_residual-in_err-value.ensures.1 in
    rw (p.1, p.2) (runs_then _ (runs_rule _ c.in_ok-field.ensures.is) (runs_stop _ c.in_err-value.ensures.means))

pub returns-clause-means : goal.returns-clause-means
returns-clause-means g c = λ call.
    runs_then _ (runs_rule _ c.in_ok-field.ensures.is) (runs_then _ c.in_ok-value.ensures.means (runs_give _ _))
