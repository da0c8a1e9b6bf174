use Rattle.aml_meaning.proofs.Runs.{runs_stop_with}
use Rattle.aml_acts.proofs.mutex.mutex_numbered.Goals as goal

pub returns-in-Some : goal.returns-in-Some
returns-in-Some c = λ call s. rw (← c.object.ensures, c.in-Some.is) (c.mutex_in.ensures call s)

pub returns-in-None : goal.returns-in-None
returns-in-None c = λ call s. rw (← c.object.ensures, c.in-None.is, c.fails.ensures) (runs_stop_with _ s)
