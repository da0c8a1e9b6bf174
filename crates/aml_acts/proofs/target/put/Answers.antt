use Rattle.std.proofs.lemmas.Result.{err_from_is_err_and}
use Rattle.aml_values.specs.Views.{view}
use Rattle.aml_meaning.proofs.Runs.{runs_then, runs_stop, runs_give, runs_set_local, runs_set_arg, runs_stop_with}
use Rattle.aml_acts.proofs.Elsewhere.{put_elsewhere}
use Rattle.aml_scene.specs.Tells.{setting_in}
use Rattle.aml_acts.proofs.target.put.Goals as goal

pub returns-in-NoTarget-clause-means : goal.returns-in-NoTarget-clause-means
returns-in-NoTarget-clause-means g c = λ call. rw c.in-NoTarget.is (runs_give _ _)

pub returns-in-Debug-clause-means : goal.returns-in-Debug-clause-means
returns-in-Debug-clause-means g c = λ call. rw c.in-Debug.is (c.take_step-in-Debug.ensures.means _)

pub returns-in-Name-clause-means : goal.returns-in-Name-clause-means
returns-in-Name-clause-means g c = λ call. rw c.in-Name.is (c.put_name.ensures.means call)

pub returns-in_err-take_step-in-Local-clause-means : goal.returns-in_err-take_step-in-Local-clause-means
returns-in_err-take_step-in-Local-clause-means g c = λ call.
    let p = err_from_is_err_and c.from_residual.result c.from_residual.ensures.1 in
    rw (c.in-Local.is, p.1, p.2) (runs_stop _ (c.in_err-take_step-in-Local.ensures.means _))

pub returns-in_ok-take_step-in-Local-clause-means : goal.returns-in_ok-take_step-in-Local-clause-means
returns-in_ok-take_step-in-Local-clause-means g c = λ call.
    rw (c.in-Local.is, c.set_local.ensures.holds (g.W.World.log c.args.world.now)) (runs_then _ (c.in_ok-take_step-in-Local.ensures.means _) (runs_set_local _ _ _ _ _ _))

pub returns-in_err-take_step-in-Argument-clause-means : goal.returns-in_err-take_step-in-Argument-clause-means
returns-in_err-take_step-in-Argument-clause-means g c = λ call.
    let p = err_from_is_err_and c.from_residual-in_err-take_step-in-Argument.result c.from_residual-in_err-take_step-in-Argument.ensures.1 in
    rw (c.in-Argument.is, p.1, p.2) (runs_stop _ (c.in_err-take_step-in-Argument.ensures.means _))

pub returns-in_ok-take_step-in-Argument-clause-means : goal.returns-in_ok-take_step-in-Argument-clause-means
returns-in_ok-take_step-in-Argument-clause-means g c = λ call.
    rw (c.in-Argument.is, c.set_argument.ensures.holds (g.W.World.log c.args.world.now)) (runs_then _ (c.in_ok-take_step-in-Argument.ensures.means _) (runs_set_arg _ _ _ _ _ _))

pub returns-in_err-take_step-in_default-clause-means : goal.returns-in_err-take_step-in_default-clause-means
returns-in_err-take_step-in_default-clause-means g c = λ call.
    let p = err_from_is_err_and c.from_residual-in_err-take_step-in_default.result c.from_residual-in_err-take_step-in_default.ensures.1 in
    rw (put_elsewhere (setting_in c.args.scene.now call) c.args.at c.args.action (view c.args.stored) c.in_default.not-NoTarget c.in_default.not-Local c.in_default.not-Argument c.in_default.not-Debug c.in_default.not-Name, p.1, p.2) (runs_stop _ (c.in_err-take_step-in_default.ensures.means _))

pub returns-in_ok-take_step-in_default-clause-means : goal.returns-in_ok-take_step-in_default-clause-means
returns-in_ok-take_step-in_default-clause-means g c = λ call.
    rw (put_elsewhere (setting_in c.args.scene.now call) c.args.at c.args.action (view c.args.stored) c.in_default.not-NoTarget c.in_default.not-Local c.in_default.not-Argument c.in_default.not-Debug c.in_default.not-Name, c.fails.ensures) (runs_then _ (c.in_ok-take_step-in_default.ensures.means _) (runs_stop_with _ _))
