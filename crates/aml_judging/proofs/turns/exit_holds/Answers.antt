use Rattle.aml_judging.proofs.turns.exit_holds.Goals as goal

pub returns-in-Some : goal.returns-in-Some
returns-in-Some c = λ around shapes lists says. rw c.in-Some.is (c.holds_as.ensures shapes lists says)
