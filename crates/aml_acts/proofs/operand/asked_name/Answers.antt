use Rattle.aml_meaning.proofs.Runs.{runs_give, runs_stop_with}
use Rattle.aml_acts.proofs.Elsewhere.{asked_targeted}
use Rattle.aml_scene.specs.Tells.{setting_in}
use Rattle.aml_acts.proofs.operand.asked_name.Goals as goal

pub returns-in-NoTarget : goal.returns-in-NoTarget
returns-in-NoTarget c = λ call s. rw (c.in-NoTarget.is, c.truth.ensures, c.is_there-there.ensures, c.link_of.ensures) (runs_give _ _)

pub returns-in_default : goal.returns-in_default
returns-in_default c = λ call s.
    rw (asked_targeted (setting_in c.args.scene.now call) c.args.target c.args.at c.args.from c.in_default.not-NoTarget, c.fails.ensures) (runs_stop_with _ _)
