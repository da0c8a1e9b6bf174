use Rattle.std.proofs.Common.{None}
use Rattle.aml_meaning.proofs.Owned.{runs_get_own}
use Rattle.aml_meaning.proofs.Runs.{runs_stop_with, runs_then}
use Rattle.aml_machine.specs.Views.{now}
use Rattle.aml_scene.proofs.OwnFields.{runs_found}
use Rattle.aml_scene.proofs.Ruled.{runs_as}
use Rattle.aml_acts.proofs.own_name.own_seen.Goals as goal

pub returns-in-Some : goal.returns-in-Some
returns-in-Some c = λ call log.
    runs_then _ (runs_found _ (now c.args.machine.now log) _ (c.in-Some.ensures log)) (rw c.fails.ensures (runs_stop_with _ _))

pub returns-in-None : goal.returns-in-None
returns-in-None c = λ call log.
    runs_then _ (runs_found _ (now c.args.machine.now log) None (c.in-None.ensures log)) (runs_as (c.own_seen.ensures log) (runs_get_own _ _ _ (now c.args.machine.now log)))
