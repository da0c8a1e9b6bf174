use Rattle.std.proofs.Common.{refl}
use Rattle.aml_machine.proofs.machine.Machine.enter.Goals as goal

pub returns-clause-enters : goal.returns-clause-enters
returns-clause-enters c = λ log given are. rw (c.new.ensures given are, c.of_callee.ensures.outside, c.of_callee.ensures.watched, c.replace.ensures.value) refl
