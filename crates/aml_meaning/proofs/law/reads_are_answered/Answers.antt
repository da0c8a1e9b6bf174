use Rattle.aml_meaning.proofs.UnitReads.{read_is_answered, other_answer_is_none}
use Rattle.aml_meaning.proofs.law.reads_are_answered.Goals as goal

pub returns-clause-answered : goal.returns-clause-answered
returns-clause-answered c = read_is_answered

pub returns-clause-other : goal.returns-clause-other
returns-clause-other c = other_answer_is_none
