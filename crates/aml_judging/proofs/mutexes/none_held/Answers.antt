use Rattle.aml_judging.proofs.Holding.{held_judges, none_held_judges, uncounted_judges}
use Rattle.aml_judging.proofs.mutexes.none_held.Goals as goal

pub returns-then-not-progress : goal.returns-then-not-progress
returns-then-not-progress g c = uncounted_judges (g.A.Shapes.numbered c.args.here.now) (g.A.Around.around c.args.here.now) c.args.at c.args.progress.now c.if-not-progress.true

pub returns-then-branch : goal.returns-then-branch
returns-then-branch g c = none_held_judges (g.A.Shapes.numbered c.args.here.now) (g.A.Around.around c.args.here.now) c.args.at c.args.progress.now _ c.if-not-progress.false c.if-branch.true c.in_ok-same.ensures

pub returns-else-branch : goal.returns-else-branch
returns-else-branch g c = held_judges (g.A.Shapes.numbered c.args.here.now) (g.A.Around.around c.args.here.now) c.args.at c.args.progress.now _ _ c.if-not-progress.false c.if-branch.false c.in_ok-same.ensures c.refusal_for.ensures
