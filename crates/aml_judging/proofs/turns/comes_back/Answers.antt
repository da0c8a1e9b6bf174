use Rattle.std.proofs.Common.{refl}
use Rattle.aml_judging.proofs.turns.comes_back.Goals as goal

pub returns-then-is_end_within : goal.returns-then-is_end_within
returns-then-is_end_within c = λ around shapes lists apart. rw (← c.is_end_within.ensures shapes lists apart, c.if-is_end_within.true) (c.is_exit_within.ensures around shapes lists apart)

pub returns-else-is_end_within : goal.returns-else-is_end_within
returns-else-is_end_within c = λ around shapes lists apart. rw (← c.is_end_within.ensures shapes lists apart, c.if-is_end_within.false) refl
