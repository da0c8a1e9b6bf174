use Rattle.std.proofs.Common.{arith, refl}
use Rattle.aml_meaning.proofs.Changed.{runs_change_spent, runs_change_stop}
use Rattle.aml_scene.proofs.Written.{changed_data, changed_own, none_held}
use Rattle.aml_acts.proofs.buffer_field.put_buffer_field.Goals as goal

pub returns-then-machine-eq0-clause-means : goal.returns-then-machine-eq0-clause-means
returns-then-machine-eq0-clause-means c = λ log. runs_change_spent _ _ _ _ _ _ _ (omega arith) (omega arith)

pub returns-in-Data-clause-means : goal.returns-in-Data-clause-means
returns-in-Data-clause-means c = λ log.
    rw c.in-Data.is (changed_data _ _ log _ _ _ _ c.in-Data.source _ (omega (arith, c.if-machine-eq0.false)) c.write_in.ensures)

pub returns-in-Own-clause-means : goal.returns-in-Own-clause-means
returns-in-Own-clause-means c = λ log.
    rw c.in-Own.is (changed_own _ _ log _ _ _ _ c.in-Own.number _ (omega (arith, c.if-machine-eq0.false)) c.write_in-in-Own.ensures)

pub returns-in_default-clause-means : goal.returns-in_default-clause-means
returns-in_default-clause-means c = λ log.
    rw c.fails.ensures (runs_change_stop _ _ log _ _ _ _ _ (omega (arith, c.if-machine-eq0.false)) (rw (none_held _ _ c.in_default.not-Data c.in_default.not-Own) refl))
