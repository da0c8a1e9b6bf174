use Rattle.aml_judging.proofs.Leaving.{breaks_judges, breaks_unseen}
use Rattle.aml_judging.proofs.leaves.breaks.Goals as goal

pub returns-then-not-progress-2 : goal.returns-then-not-progress-2
returns-then-not-progress-2 g c = breaks_unseen (g.A.Shapes.numbered c.args.here.now) (g.A.Around.around c.args.here.now) c.args.at c.args.progress.now c.if-not-progress.false c.if-not-progress-2.true

pub returns : goal.returns
returns g c = breaks_judges (g.A.Shapes.numbered c.args.here.now) (g.A.Around.around c.args.here.now) c.args.at c.args.progress.now c.breaks.new.self c.if-not-progress.false c.if-not-progress-2.false (c.in_ok-breaks.ensures (g.A.Shapes.numbered c.args.here.now))
