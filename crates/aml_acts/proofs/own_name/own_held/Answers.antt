use Rattle.std.proofs.Common.{None}
use Rattle.std.proofs.lemmas.Result.{err_from_is_err_and}
use Rattle.aml_meaning.proofs.Runs.{runs_give, runs_stop, runs_then}
use Rattle.aml_machine.specs.Views.{now}
use Rattle.aml_scene.proofs.OwnFields.{runs_found}
use Rattle.aml_scene.proofs.Copied.{copied_own}
use Rattle.aml_acts.proofs.own_name.own_held.Goals as goal

pub returns-in-Some : goal.returns-in-Some
returns-in-Some c = λ call log.
    runs_then _ (runs_found _ (now c.args.machine.now log) _ (c.in-Some.ensures log)) (rw (← c.usable_buffer_field.ensures.is) (c.buffer_field_read.ensures call log))

pub returns-in_err-content-in-None : goal.returns-in_err-content-in-None
returns-in_err-content-in-None c = λ call log.
    let p = err_from_is_err_and c.from_residual.result c.from_residual.ensures.1 in
    rw (p.1, p.2) (runs_then _ (runs_found _ (now c.args.machine.now log) None (c.in-None.ensures log)) (runs_stop _ (copied_own _ _ _ (now c.args.machine.now log) (c.in_err-content-in-None.ensures log))))

pub returns-in_ok-content-in-None : goal.returns-in_ok-content-in-None
returns-in_ok-content-in-None c = λ call log.
    runs_then _ (runs_found _ (now c.args.machine.now log) None (c.in-None.ensures log)) (runs_then _ (copied_own _ _ _ (now c.args.machine.now log) (c.in_ok-content-in-None.ensures log)) (runs_give _ _))
