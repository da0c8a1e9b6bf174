use Rattle.std.proofs.Common.{arith}
use Rattle.aml_meaning.proofs.Runs.{runs_tick, runs_no_tick}
use Rattle.aml_scene.proofs.steps.take_step.Goals as goal

pub returns-then-machine-eq0-clause-means : goal.returns-then-machine-eq0-clause-means
returns-then-machine-eq0-clause-means c = λ log. runs_no_tick _ _ _ _ _ (omega arith) (omega arith)

pub returns-clause-means : goal.returns-clause-means
returns-clause-means c = λ log. runs_tick _ _ _ _ _ (omega arith)
