use Rattle.std.proofs.lemmas.Result.{err_from_is_err_and}
use Rattle.aml_meaning.proofs.Runs.{runs_give, runs_stop, runs_stop_with, runs_then}
use Rattle.aml_acts.proofs.Elsewhere.{changed_elsewhere}
use Rattle.aml_scene.specs.Tells.{setting_in}
use Rattle.aml_acts.proofs.operand.changed_in_place.Goals as goal

pub returns-in_err-take_step-in-Dereference-clause-means : goal.returns-in_err-take_step-in-Dereference-clause-means
returns-in_err-take_step-in-Dereference-clause-means c = λ call log.
    let p = err_from_is_err_and c.from_residual.result c.from_residual.ensures.1 in
    rw (c.in-Dereference.is, p.1, p.2) (runs_stop _ (c.in_err-take_step-in-Dereference.ensures.means log))

pub returns-in_ok-take_step-in-Dereference-clause-means : goal.returns-in_ok-take_step-in-Dereference-clause-means
returns-in_ok-take_step-in-Dereference-clause-means c = λ call log.
    rw (c.in-Dereference.is, c.fails.ensures) (runs_then _ (c.in_ok-take_step-in-Dereference.ensures.means log) (runs_stop_with _ _))

pub returns-in_default-clause-means : goal.returns-in_default-clause-means
returns-in_default-clause-means c = λ call log.
    rw (changed_elsewhere (setting_in c.args.scene.now call) c.args.action c.args.at c.in_default.not-Dereference) (runs_give _ _)
