use Rattle.aml_judging.proofs.Leaving.{name_judges}
use Rattle.aml_judging.proofs.leaves.name_read.Goals as goal

pub returns : goal.returns
returns g c = λ w parts. name_judges (g.A.Shapes.numbered c.args.here.now) (g.A.Around.around c.args.here.now) w c.args.at parts c.link.result c.args.progress.now c.read.new.progress c.read.result c.in_ok-given.given c.read.ensures.given c.link.ensures c.in_ok-given.ensures c.read.ensures.paid
