use Rattle.aml_meaning.proofs.Runs.{runs_stop_with}
use Rattle.aml_acts.proofs.Elsewhere.{no_mutex_named}
use Rattle.aml_scene.specs.Tells.{setting_in}
use Rattle.aml_acts.proofs.mutex.mutex_named.Goals as goal

pub returns-in-Missing : goal.returns-in-Missing
returns-in-Missing c = λ call s. rw (← c.link_of.ensures, c.in-Missing.is, c.fails.ensures) (runs_stop_with _ s)

pub returns-in-Object : goal.returns-in-Object
returns-in-Object c = λ call s. rw (← c.in-Object.ensures) (c.mutex_numbered.ensures call s)

pub returns-in_default : goal.returns-in_default
returns-in_default c = λ call s.
    rw (← c.link_of.ensures, no_mutex_named (setting_in c.args.scene.now call) _ _ _ c.in_default.not-Missing c.in_default.not-Object, c.fails-in_default.ensures) (runs_stop_with _ s)
