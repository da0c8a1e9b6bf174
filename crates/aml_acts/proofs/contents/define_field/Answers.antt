use Rattle.aml_acts.proofs.contents.define_field.Goals as goal

pub returns-clause-means : goal.returns-clause-means
returns-clause-means c = λ log. rw c.made.ensures (c.define_field.ensures.means log)
