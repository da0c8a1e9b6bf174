use Rattle.aml_meaning.proofs.Runs.{runs_get_name, runs_stop_with}
use Rattle.aml_acts.proofs.Elsewhere.{seen_elsewhere}
use Rattle.aml_scene.proofs.Ruled.{runs_as}
use Rattle.aml_machine.specs.Views.{now}
use Rattle.aml_scene.specs.Tells.{setting_in}
use Rattle.aml_acts.proofs.operand.named_seen.Goals as goal

pub returns-in-Data : goal.returns-in-Data
returns-in-Data c = λ call log.
    rw (← c.in-Data.ensures) (runs_as (c.seen.ensures log) (runs_get_name _ _ _ (now c.args.machine.now log)))

pub returns-in-Own : goal.returns-in-Own
returns-in-Own c = λ call log.
    rw (← c.in-Own.ensures) (c.own_seen.ensures call log)

pub returns-in_default : goal.returns-in_default
returns-in_default c = λ call log.
    rw (← c.link_of.ensures, seen_elsewhere (setting_in c.args.scene.now call) _ _ c.in_default.not-Data c.in_default.not-Own, ← c.sizeless.ensures, c.fails.ensures) (runs_stop_with _ _)
