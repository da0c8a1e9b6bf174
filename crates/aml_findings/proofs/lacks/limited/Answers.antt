use Rattle.std.proofs.Common.{sym}
use Rattle.aml_targets.specs.Marks.{is_marked}
use Rattle.aml_findings.proofs.Lacking.{not_limited}
use Rattle.aml_findings.proofs.lacks.limited.Goals as goal

pub returns-in-len1-up-default : goal.returns-in-len1-up-default
returns-in-len1-up-default c = sym (not_limited (is_marked c.args.targets.now.locals) c.args.wanted c.args.local c.args.parts.now c.args.limit c.in-len1-up-default.len_at_least)
