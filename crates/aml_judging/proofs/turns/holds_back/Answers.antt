use Rattle.std.proofs.Common.{sym, ◌∙◌}
use Rattle.aml_judging.proofs.Narrow.{second_fails, three_hold}
use Rattle.aml_judging.proofs.turns.holds_back.Goals as goal
use Rattle.aml_judging.proofs.turns.holds_back.Goals.{then-branch+in_ok-exit_holds, else-branch}

pub returns-in_ok-exit_holds-2 : goal.returns-in_ok-exit_holds-2
returns-in_ok-exit_holds-2 c = λ around shapes lists says. elim c.if-branch.branch [
  | then-branch+in_ok-exit_holds w ↦ three_hold _ _ _ _ _ _ (c.in_ok-holds_as.ensures shapes lists says) w.if-branch.true (w.in_ok-exit_holds.ensures around shapes lists says) (sym w.value-is ∙ c.if-branch-2.true) (c.in_ok-exit_holds-2.ensures around shapes lists says)
  | else-branch w ↦ absurd cc
]

pub returns-else-branch-2 : goal.returns-else-branch-2
returns-else-branch-2 c = λ around shapes lists says. elim c.if-branch.branch [
  | then-branch+in_ok-exit_holds w ↦ second_fails _ _ _ _ _ _ (c.in_ok-holds_as.ensures shapes lists says) w.if-branch.true (w.in_ok-exit_holds.ensures around shapes lists says) (sym w.value-is ∙ c.if-branch-2.false) c.if-branch-2.false
  | else-branch w ↦ rw (← c.in_ok-holds_as.ensures shapes lists says, w.if-branch.false) c.if-branch-2.false
]
