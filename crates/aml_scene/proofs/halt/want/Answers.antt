use Rattle.aml_meaning.proofs.Runs.{runs_give, runs_stop_with}
use Rattle.aml_scene.proofs.halt.want.Goals as goal

pub returns-in-Some : goal.returns-in-Some
returns-in-Some c = λ call s. rw c.in-Some.is (runs_give _ s)

pub returns-in-None : goal.returns-in-None
returns-in-None c = λ call s. rw (c.in-None.is, c.fails.ensures) (runs_stop_with _ s)
