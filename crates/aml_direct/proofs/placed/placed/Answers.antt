use Rattle.aml_meaning.proofs.Runs.{runs_give, runs_stop, runs_then}
use Rattle.aml_direct.proofs.placed.placed.Goals as goal

pub returns-in-Ok : goal.returns-in-Ok
returns-in-Ok c = λ m stop s t h. let d = rw c.in-Ok.is at h in record { runs = runs_then _ d.runs (runs_give _ _); next = d.next }

pub returns : goal.returns
returns c = λ m stop s t h. let d = rw c.in-Err.is at h in record { runs = runs_stop _ d.runs; next = tt }
