use Rattle.std.proofs.lemmas.Result.{err_from_is_err_and}
use Rattle.aml_meaning.proofs.Runs.{runs_give, runs_stop, runs_then}
use Rattle.aml_machine.specs.Views.{now}
use Rattle.aml_scene.proofs.Copied.{copied_peek}
use Rattle.aml_scene.proofs.Ruled.{runs_rule}
use Rattle.aml_acts.proofs.buffer_field.buffer_field_read.Goals as goal

pub returns-in_err-field : goal.returns-in_err-field
returns-in_err-field c = λ call log.
    let p = err_from_is_err_and c.from_residual.result c.from_residual.ensures.1 in
    rw (p.1, p.2) (runs_stop _ (runs_rule _ c.in_err-field.ensures.is))

pub returns-in_err-value : goal.returns-in_err-value
returns-in_err-value c = λ call log.
    let p = err_from_is_err_and c.from_residual-in_err-value.result c.from_residual-in_err-value.ensures.1 in
    rw (p.1, p.2) (runs_then _ (runs_rule _ c.in_ok-field.ensures.is) (runs_stop _ (copied_peek _ _ (now c.args.machine.now log) (rw (c.held_by-held.ensures log) at c.in_err-value.ensures))))

pub returns : goal.returns
returns c = λ call log.
    runs_then _ (runs_rule _ c.in_ok-field.ensures.is) (runs_then _ (copied_peek _ _ (now c.args.machine.now log) (rw (c.held_by-held.ensures log) at c.in_ok-value.ensures)) (runs_give _ _))
