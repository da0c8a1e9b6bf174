use Rattle.aml_judging.proofs.turns.is_exit_within.Goals as goal

pub returns-in-Some : goal.returns-in-Some
returns-in-Some c = λ around shapes lists apart. rw c.in-Some.is (c.is_end_within.ensures shapes lists apart)
