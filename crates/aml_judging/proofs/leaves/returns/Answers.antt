use Rattle.aml_judging.proofs.Leaving.{returns_judges, returns_unseen}
use Rattle.aml_judging.proofs.leaves.returns.Goals as goal

pub returns-then-not-progress : goal.returns-then-not-progress
returns-then-not-progress g c = returns_unseen (g.A.Shapes.numbered c.args.here.now) (g.A.Around.around c.args.here.now) 0 c.args.progress.now c.args.kind c.if-not-progress.true

pub returns : goal.returns
returns g c = returns_judges (g.A.Shapes.numbered c.args.here.now) (g.A.Around.around c.args.here.now) 0 c.args.progress.now c.returns.new.self c.args.kind c.if-not-progress.false (c.returns.ensures (g.A.Shapes.numbered c.args.here.now))
