use Rattle.aml_meaning.proofs.Runs.{runs_give}
use Rattle.aml_scene.proofs.Written.{bound_there}
use Rattle.aml_scene.specs.Tells.{setting_in}
use Rattle.aml_scene.proofs.index.bound.Goals as goal

pub returns-in-Missing-clause-means : goal.returns-in-Missing-clause-means
returns-in-Missing-clause-means c = λ call log. rw (← c.in-Missing.ensures) (c.refused.ensures.means call log)

pub returns-in_default-clause-means : goal.returns-in_default-clause-means
returns-in_default-clause-means c = λ call log.
    rw (← c.link_of.ensures, bound_there (setting_in c.args.scene.now call) _ c.args.at c.in_default.not-Missing) (runs_give _ _)
