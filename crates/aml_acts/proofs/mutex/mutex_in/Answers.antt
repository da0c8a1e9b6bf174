use Rattle.aml_meaning.proofs.Runs.{runs_give, runs_stop_with}
use Rattle.aml_acts.proofs.Elsewhere.{no_mutex}
use Rattle.aml_scene.specs.Tells.{setting_in}
use Rattle.aml_acts.proofs.mutex.mutex_in.Goals as goal

pub returns-in-Mutex : goal.returns-in-Mutex
returns-in-Mutex c = λ call s. rw c.in-Mutex.is (runs_give _ s)

pub returns-in-GlobalLock : goal.returns-in-GlobalLock
returns-in-GlobalLock c = λ call s. rw (c.in-GlobalLock.is, c.fails.ensures) (runs_stop_with _ s)

pub returns-in_default : goal.returns-in_default
returns-in_default c = λ call s.
    rw (no_mutex (setting_in c.args.scene.now call) c.args.at c.args.from c.args.id.0 c.args.object c.in_default.not-Mutex c.in_default.not-GlobalLock, c.fails-in_default.ensures) (runs_stop_with _ s)
