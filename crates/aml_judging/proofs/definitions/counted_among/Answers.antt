use Rattle.aml_judging.proofs.Makings.{counted_few, counted_many, four_are}
use Rattle.aml_judging.proofs.definitions.counted_among.Goals as goal

pub returns-in-len4 : goal.returns-in-len4
returns-in-len4 g c = λ env. rw (four_are c.args.parts.now c.from-item.result c.index-item.result c.count-item.result c.name-item.result c.in-len4.len_at_least c.in-len4.len_below c.from-item.is c.index-item.is c.count-item.is c.name-item.is) (c.counted_made.ensures env)

pub returns-in-len5-up : goal.returns-in-len5-up
returns-in-len5-up g c = λ env. rw c.refusal-in-len5-up.ensures (counted_many (g.A.Around.around c.args.here.now) c.args.at c.args.parts.now env c.in-len5-up.len_at_least)

pub returns-in_default : goal.returns-in_default
returns-in_default g c = λ env. rw c.refusal.ensures (counted_few (g.A.Around.around c.args.here.now) c.args.at c.args.parts.now env c.in_default.len_below)
