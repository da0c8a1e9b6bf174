use Rattle.aml_judging.proofs.Leaving.{continues_judges, continues_unseen}
use Rattle.aml_judging.proofs.leaves.continues.Goals as goal

pub returns-then-not-progress-2 : goal.returns-then-not-progress-2
returns-then-not-progress-2 g c = continues_unseen (g.A.Shapes.numbered c.args.here.now) (g.A.Around.around c.args.here.now) c.args.at c.args.progress.now c.if-not-progress.false c.if-not-progress-2.true

pub returns : goal.returns
returns g c = continues_judges (g.A.Shapes.numbered c.args.here.now) (g.A.Around.around c.args.here.now) c.args.at c.args.progress.now c.continues.new.self c.if-not-progress.false c.if-not-progress-2.false (c.in_ok-continues.ensures (g.A.Shapes.numbered c.args.here.now))
