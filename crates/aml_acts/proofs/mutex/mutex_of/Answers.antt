use Rattle.std.proofs.lemmas.Result.{err_from_is_err_and}
use Rattle.aml_meaning.proofs.Runs.{runs_stop, runs_stop_with, runs_then}
use Rattle.aml_acts.proofs.Elsewhere.{no_mutex_there}
use Rattle.aml_scene.specs.Tells.{setting_in}
use Rattle.aml_acts.proofs.mutex.mutex_of.Goals as goal

pub returns-in-Name-clause-means : goal.returns-in-Name-clause-means
returns-in-Name-clause-means c = λ call log. rw c.in-Name.is (c.mutex_named.ensures call _)

pub returns-in-Local-clause-means : goal.returns-in-Local-clause-means
returns-in-Local-clause-means c = λ call log. rw (c.in-Local.is, c.fails.ensures) (runs_stop_with _ _)

pub returns-in-Argument-clause-means : goal.returns-in-Argument-clause-means
returns-in-Argument-clause-means c = λ call log. rw (c.in-Argument.is, c.fails-in-Argument.ensures) (runs_stop_with _ _)

pub returns-in_err-take_step-in_default-clause-means : goal.returns-in_err-take_step-in_default-clause-means
returns-in_err-take_step-in_default-clause-means c = λ call log.
    let p = err_from_is_err_and c.from_residual.result c.from_residual.ensures.1 in
    rw (no_mutex_there (setting_in c.args.scene.now call) c.args.at c.args.action c.args.from c.in_default.not-Name c.in_default.not-Local c.in_default.not-Argument, p.1, p.2) (runs_stop _ (c.in_err-take_step-in_default.ensures.means log))

pub returns-in_ok-take_step-in_default-clause-means : goal.returns-in_ok-take_step-in_default-clause-means
returns-in_ok-take_step-in_default-clause-means c = λ call log.
    rw (no_mutex_there (setting_in c.args.scene.now call) c.args.at c.args.action c.args.from c.in_default.not-Name c.in_default.not-Local c.in_default.not-Argument, c.fails-in_default.ensures) (runs_then _ (c.in_ok-take_step-in_default.ensures.means log) (runs_stop_with _ _))
