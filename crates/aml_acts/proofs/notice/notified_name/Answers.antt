use Rattle.aml_meaning.proofs.Runs.{runs_give, runs_stop_with}
use Rattle.aml_acts.proofs.Elsewhere.{not_notified}
use Rattle.aml_scene.specs.Tells.{setting_in}
use Rattle.aml_acts.proofs.notice.notified_name.Goals as goal

pub returns-in-Missing : goal.returns-in-Missing
returns-in-Missing c = λ call s. rw (← c.link_of.ensures, c.in-Missing.is, c.fails.ensures) (runs_stop_with _ s)

pub returns-then-is_notifiable : goal.returns-then-is_notifiable
returns-then-is_notifiable c = λ call s.
    rw (← c.in-Object.ensures, ← c.object.ensures, ← c.is_notifiable.ensures, c.if-is_notifiable.true) (runs_give _ s)

pub returns-else-is_notifiable : goal.returns-else-is_notifiable
returns-else-is_notifiable c = λ call s.
    rw (← c.in-Object.ensures, ← c.object.ensures, ← c.is_notifiable.ensures, c.if-is_notifiable.false) (runs_give _ s)

pub returns-in_default : goal.returns-in_default
returns-in_default c = λ call s.
    rw (← c.link_of.ensures, not_notified (setting_in c.args.scene.now call) _ _ c.in_default.not-Missing c.in_default.not-Object) (runs_give _ s)
