use Rattle.std.proofs.lemmas.Result.{err_from_is_err_and}
use Rattle.aml_meaning.proofs.Runs.{runs_then, runs_stop, runs_get_local, runs_get_arg, runs_stop_with}
use Rattle.aml_acts.proofs.Elsewhere.{not_seen}
use Rattle.aml_scene.proofs.Ruled.{runs_as, runs_rule}
use Rattle.aml_scene.specs.Tells.{setting_in}
use Rattle.aml_acts.proofs.operand.measured.Goals as goal

pub returns-in_err-held-in-Local-clause-means : goal.returns-in_err-held-in-Local-clause-means
returns-in_err-held-in-Local-clause-means c = λ call log.
    let p = err_from_is_err_and c.from_residual.result c.from_residual.ensures.1 in
    rw (c.in-Local.is, p.1, p.2) (runs_stop _ (runs_as c.in_err-held-in-Local.ensures (runs_get_local _ _ _ _)))

pub returns-in_ok-held-in-Local-clause-means : goal.returns-in_ok-held-in-Local-clause-means
returns-in_ok-held-in-Local-clause-means c = λ call log.
    rw c.in-Local.is (runs_then _ (runs_as c.in_ok-held-in-Local.ensures (runs_get_local _ _ _ _)) (runs_rule _ c.sized.ensures))

pub returns-in_err-held-in-Argument-clause-means : goal.returns-in_err-held-in-Argument-clause-means
returns-in_err-held-in-Argument-clause-means c = λ call log.
    let p = err_from_is_err_and c.from_residual-in_err-held-in-Argument.result c.from_residual-in_err-held-in-Argument.ensures.1 in
    rw (c.in-Argument.is, p.1, p.2) (runs_stop _ (runs_as c.in_err-held-in-Argument.ensures (runs_get_arg _ _ _ _)))

pub returns-in_ok-held-in-Argument-clause-means : goal.returns-in_ok-held-in-Argument-clause-means
returns-in_ok-held-in-Argument-clause-means c = λ call log.
    rw c.in-Argument.is (runs_then _ (runs_as c.in_ok-held-in-Argument.ensures (runs_get_arg _ _ _ _)) (runs_rule _ c.sized-in-Argument.ensures))

pub returns-in_err-held-in-Name-clause-means : goal.returns-in_err-held-in-Name-clause-means
returns-in_err-held-in-Name-clause-means c = λ call log.
    let p = err_from_is_err_and c.from_residual-in_err-held-in-Name.result c.from_residual-in_err-held-in-Name.ensures.1 in
    rw (c.in-Name.is, p.1, p.2) (runs_stop _ (c.in_err-held-in-Name.ensures call log))

pub returns-in_ok-held-in-Name-clause-means : goal.returns-in_ok-held-in-Name-clause-means
returns-in_ok-held-in-Name-clause-means c = λ call log.
    rw c.in-Name.is (runs_then _ (c.in_ok-held-in-Name.ensures call log) (runs_rule _ c.sized-in-Name.ensures))

pub returns-in_err-take_step-in_default-clause-means : goal.returns-in_err-take_step-in_default-clause-means
returns-in_err-take_step-in_default-clause-means c = λ call log.
    let p = err_from_is_err_and c.from_residual-in_err-take_step-in_default.result c.from_residual-in_err-take_step-in_default.ensures.1 in
    rw (not_seen (setting_in c.args.scene.now call) c.args.action c.args.at c.in_default.not-Local c.in_default.not-Argument c.in_default.not-Name, p.1, p.2) (runs_stop _ (runs_stop _ (c.in_err-take_step-in_default.ensures.means log)))

pub returns-in_ok-take_step-in_default-clause-means : goal.returns-in_ok-take_step-in_default-clause-means
returns-in_ok-take_step-in_default-clause-means c = λ call log.
    rw (not_seen (setting_in c.args.scene.now call) c.args.action c.args.at c.in_default.not-Local c.in_default.not-Argument c.in_default.not-Name, c.fails.ensures) (runs_stop _ (runs_then _ (c.in_ok-take_step-in_default.ensures.means log) (runs_stop_with _ _)))
