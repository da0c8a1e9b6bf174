use Rattle.aml_judging.proofs.names.name.Goals as goal

pub returns-in-Field : goal.returns-in-Field
returns-in-Field g c = λ env. rw (c.in-Field.is, ← c.field.ensures.is) (c.field-in-Field.ensures env)
