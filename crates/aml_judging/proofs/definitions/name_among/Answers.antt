use Rattle.aml_findings.specs.Views.{made_of}
use Rattle.aml_judging.proofs.Going.{gives_stops}
use Rattle.aml_judging.proofs.Narrow.{two_are}
use Rattle.aml_judging.proofs.Makings.{name_few, name_many}
use Rattle.aml_judging.proofs.definitions.name_among.Goals as goal

pub returns-in-len2 : goal.returns-in-len2
returns-in-len2 g c = rw (two_are c.args.parts.now c.name-item.result c.data-item.result c.in-len2.len_at_least c.in-len2.len_below c.name-item.is c.data-item.is) c.name_made.ensures

pub returns-in-len3-up : goal.returns-in-len3-up
returns-in-len3-up g c = gives_stops {see = made_of (g.A.Shapes.numbered c.args.here.now)} c.args.progress.now c.refusal-in-len3-up.result (λ env. rw c.refusal-in-len3-up.ensures (name_many (g.A.Around.around c.args.here.now) c.args.at c.args.parts.now env c.in-len3-up.len_at_least))

pub returns-in_default : goal.returns-in_default
returns-in_default g c = gives_stops {see = made_of (g.A.Shapes.numbered c.args.here.now)} c.args.progress.now c.refusal.result (λ env. rw c.refusal.ensures (name_few (g.A.Around.around c.args.here.now) c.args.at c.args.parts.now env c.in_default.len_below))
