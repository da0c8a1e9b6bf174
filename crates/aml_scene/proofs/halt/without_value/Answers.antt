use Rattle.aml_meaning.specs.Parts.{give}
use Rattle.aml_meaning.proofs.Runs.{runs_give, runs_stop, runs_then}
use Rattle.aml_scene.proofs.halt.without_value.Goals as goal

pub returns-in-Ok : goal.returns-in-Ok
returns-in-Ok c = λ m s t h. runs_then (λ v. give tt) (rw c.in-Ok.is at h) (runs_give tt t)

pub returns : goal.returns
returns c = λ m s t h. runs_stop (λ v. give tt) (rw c.in-Err.is at h)
