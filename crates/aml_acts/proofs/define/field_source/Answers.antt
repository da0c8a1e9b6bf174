use Rattle.std.proofs.Common.{None}
use Rattle.aml_meaning.proofs.Runs.{runs_give, runs_stop_with, runs_then}
use Rattle.aml_machine.specs.Views.{now}
use Rattle.aml_scene.specs.Tells.{setting_in}
use Rattle.aml_scene.proofs.OwnFields.{runs_found, source_elsewhere}
use Rattle.aml_acts.proofs.define.field_source.Goals as goal

pub returns-in-Data : goal.returns-in-Data
returns-in-Data c = λ call log. rw c.in-Data.is (runs_give _ _)

pub returns-in-None : goal.returns-in-None
returns-in-None c = λ call log.
    rw c.in-Own.is (runs_then _ (runs_found _ (now c.args.machine.now log) None (c.in-None.ensures log)) (runs_give _ _))

pub returns-in-Some : goal.returns-in-Some
returns-in-Some c = λ call log.
    rw (c.in-Own.is, c.fails.ensures) (runs_then _ (runs_found _ (now c.args.machine.now log) _ (c.in-Some.ensures log)) (runs_stop_with _ _))

pub returns-in_default : goal.returns-in_default
returns-in_default c = λ call log.
    rw (source_elsewhere (setting_in c.args.scene.now call) c.args.at c.args.link c.in_default.not-Data c.in_default.not-Own, c.fails-in_default.ensures) (runs_stop_with _ _)
