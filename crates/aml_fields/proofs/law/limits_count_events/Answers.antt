use Rattle.aml_fields.proofs.Limits.{answers_tell_the_limit, reads_have_their_events, writes_have_their_events}
use Rattle.aml_fields.proofs.law.limits_count_events.Goals as goal

pub returns-clause-reads : goal.returns-clause-reads
returns-clause-reads c = reads_have_their_events

pub returns-clause-writes : goal.returns-clause-writes
returns-clause-writes c = writes_have_their_events

pub returns-clause-answers : goal.returns-clause-answers
returns-clause-answers c = answers_tell_the_limit
