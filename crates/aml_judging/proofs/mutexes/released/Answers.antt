use Rattle.aml_judging.proofs.Holding.{not_released, releases_judges}
use Rattle.aml_judging.proofs.mutexes.released.Goals as goal

pub returns-in-Some : goal.returns-in-Some
returns-in-Some g c = releases_judges (g.A.Shapes.numbered c.args.here.now) (g.A.Around.around c.args.here.now) c.args.at c.args.progress.now c.args.mutex _ c.in-Some.left c.in_default.not-Different c.in-Some.is c.in_ok-left.ensures.releases c.in_ok-left.ensures.certain

pub returns-in-None : goal.returns-in-None
returns-in-None g c = not_released (g.A.Shapes.numbered c.args.here.now) (g.A.Around.around c.args.here.now) c.args.at c.args.progress.now c.args.mutex _ _ c.in_default.not-Different c.in-None.is c.in_ok-left.ensures.releases c.refusal_for.ensures
