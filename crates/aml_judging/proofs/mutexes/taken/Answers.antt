use Rattle.aml_known.proofs.Takings.{says_earlier}
use Rattle.aml_judging.proofs.Holding.{low_judges, takes_judges}
use Rattle.aml_judging.proofs.mutexes.taken.Goals as goal

pub returns-then-branch : goal.returns-then-branch
returns-then-branch g c = low_judges _ (g.A.Around.around c.args.here.now) c.args.at c.args.progress.now c.args.mutex c.in_ok-greatest.field-0 _ c.in_default.not-Different c.in_ok-greatest.ensures.level c.if-branch.true c.refusal_for.ensures

pub returns : goal.returns
returns g c = takes_judges (g.A.Shapes.numbered c.args.here.now) (g.A.Around.around c.args.here.now) c.args.at c.args.progress.now c.args.mutex c.takes.new.self c.take.new.self c.in_ok-progress.field-0 c.in_ok-greatest.field-0 c.in_default.not-Different c.in_ok-greatest.ensures.level c.if-branch.false c.in_ok-progress.ensures.takes c.in_ok-progress.ensures.grows c.in_ok-progress.ensures.read
    (λ lists says. says_earlier lists c.args.progress.now.locks.takings.items c.take.new.self.takings.items c.in_ok-progress.ensures.grows says)
    (c.takes.ensures (g.A.Shapes.numbered c.args.here.now))
