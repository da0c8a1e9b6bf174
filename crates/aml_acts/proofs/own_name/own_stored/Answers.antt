use Rattle.std.proofs.Common.{None}
use Rattle.aml_meaning.proofs.Runs.{runs_then}
use Rattle.aml_machine.specs.Views.{now}
use Rattle.aml_scene.proofs.OwnFields.{runs_found}
use Rattle.aml_acts.proofs.own_name.own_stored.Goals as goal

pub returns-in-Some-clause-means : goal.returns-in-Some-clause-means
returns-in-Some-clause-means c = λ call log.
    runs_then _ (runs_found _ (now c.args.machine.now log) _ (c.in-Some.ensures log)) (rw (← c.usable_buffer_field.ensures.is) (c.buffer_field_stored.ensures.means call log))

pub returns-in-None-clause-means : goal.returns-in-None-clause-means
returns-in-None-clause-means c = λ call log.
    runs_then _ (runs_found _ (now c.args.machine.now log) None (c.in-None.ensures log)) (c.set_own.ensures.means log)
