use Rattle.aml_judging.proofs.Holding.{level_judges, no_level_judges}
use Rattle.aml_judging.proofs.calls.levels.Goals as goal

pub returns-then-branch : goal.returns-then-branch
returns-then-branch g c = level_judges (g.A.Shapes.numbered c.args.here.now) (g.A.Around.around c.args.here.now) c.args.at c.args.progress.now c.args.least _ c.in_default.not-Different c.if-branch.true (c.in_ok-takes_level.ensures (g.A.Around.around c.args.here.now))

pub returns-else-branch : goal.returns-else-branch
returns-else-branch g c = no_level_judges (g.A.Shapes.numbered c.args.here.now) (g.A.Around.around c.args.here.now) c.args.at c.args.progress.now c.args.least _ _ c.in_default.not-Different c.if-branch.false (c.in_ok-takes_level.ensures (g.A.Around.around c.args.here.now)) c.refusal_for.ensures
