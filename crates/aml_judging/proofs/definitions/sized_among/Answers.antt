use Rattle.aml_judging.proofs.Makings.{sized_few, sized_many, three_are}
use Rattle.aml_judging.proofs.definitions.sized_among.Goals as goal

pub returns-in-len3 : goal.returns-in-len3
returns-in-len3 g c = λ env. rw (three_are c.args.parts.now c.from-item.result c.index-item.result c.name-item.result c.in-len3.len_at_least c.in-len3.len_below c.from-item.is c.index-item.is c.name-item.is) (c.sized_made.ensures env)

pub returns-in-len4-up : goal.returns-in-len4-up
returns-in-len4-up g c = λ env. rw c.refusal-in-len4-up.ensures (sized_many (g.A.Around.around c.args.here.now) c.args.at c.args.size c.args.parts.now env c.in-len4-up.len_at_least)

pub returns-in_default : goal.returns-in_default
returns-in_default g c = λ env. rw c.refusal.ensures (sized_few (g.A.Around.around c.args.here.now) c.args.at c.args.size c.args.parts.now env c.in_default.len_below)
