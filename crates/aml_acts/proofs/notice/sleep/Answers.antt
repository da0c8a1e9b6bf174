use Rattle.std.proofs.Common.{arith}
use Rattle.std.proofs.lemmas.Result.{err_from_is_err_and}
use Rattle.aml_meaning.proofs.Told.{runs_no_sleep}
use Rattle.aml_machine.specs.Views.{frame_of}
use Rattle.aml_acts.proofs.Slept.{runs_refused_sleep, runs_slept}
use Rattle.aml_acts.proofs.notice.sleep.Goals as goal

pub returns-then-machine-eq0-clause-means : goal.returns-then-machine-eq0-clause-means
returns-then-machine-eq0-clause-means g c = runs_no_sleep _ _ c.args.milliseconds _ _ _ (omega (arith, c.if-machine-eq0.true)) (omega (arith, c.if-machine-eq0.true))

pub returns-in_err-sleep-clause-means : goal.returns-in_err-sleep-clause-means
returns-in_err-sleep-clause-means g c =
    let p = err_from_is_err_and c.from_residual.result c.from_residual.ensures.1 in
    rw (p.1, p.2) (runs_refused_sleep (frame_of c.args.machine.now.frame) c.args.machine.now.names c.sleep.new.names c.args.milliseconds _ _ _ _ c.sleep.ensures.kinds c.in_err-sleep.ensures.event (omega arith) c.in_err-sleep.ensures.refusal)

pub returns-clause-means : goal.returns-clause-means
returns-clause-means g c =
    runs_slept (frame_of c.args.machine.now.frame) c.args.machine.now.names c.sleep.new.names c.args.milliseconds _ _ _ _ (omega (arith, c.if-machine-eq0.false)) c.sleep.ensures.kinds c.in_ok-sleep.ensures.refusal c.in_ok-sleep.ensures.event
