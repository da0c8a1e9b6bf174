use Rattle.aml_verify.proofs.checked.linked.Goals as goal

pub returns-in-None-clause-all : goal.returns-in-None-clause-all
returns-in-None-clause-all c = λ stop is. absurd (c.in-None.ensures.all stop is)
