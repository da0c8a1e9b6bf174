use Rattle.aml_judged.proofs.Seen.{calls_are_seen, cycles_are_long}
use Rattle.aml_judged.proofs.calls_are_seen.Goals as goal

pub returns-clause-seen : goal.returns-clause-seen
returns-clause-seen c = calls_are_seen

pub returns-clause-cycles : goal.returns-clause-cycles
returns-clause-cycles c = cycles_are_long
