use Rattle.aml_scene.specs.Tells.{link_in}
use Rattle.aml_scene.proofs.own.link_of.Goals as goal

pub returns-in-Some : goal.returns-in-Some
returns-in-Some c = c.in-Some.ensures (link_in c.args.scene.now) c.args.scene.now.meant
