use Rattle.aml_meaning.proofs.Runs.{runs_stop_with}
use Rattle.aml_acts.proofs.Elsewhere.{asked_elsewhere}
use Rattle.aml_scene.specs.Tells.{setting_in}
use Rattle.aml_acts.proofs.operand.asked.Goals as goal

pub returns-in-Name : goal.returns-in-Name
returns-in-Name c = λ call s. rw c.in-Name.is (c.asked_name.ensures call s)

pub returns-in_default : goal.returns-in_default
returns-in_default c = λ call s.
    rw (asked_elsewhere (setting_in c.args.scene.now call) c.args.what c.args.target c.args.at c.args.from c.in_default.not-Name, c.fails.ensures) (runs_stop_with _ _)
