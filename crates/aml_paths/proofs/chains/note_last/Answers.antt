use Rattle.aml_paths.proofs.Chained.{noted_push}
use Rattle.aml_paths.proofs.chains.note_last.Goals as goal

pub reach-preserved : goal.reach-preserved
reach-preserved c = noted_push c.args.lasts.now.items c.reach.lasts.items c.push.new.self.items c.args.number c.reach.invariant c.in_ok-push.ensures.items
