use Rattle.std.proofs.Common.{sym}
use Rattle.aml_targets.specs.Marks.{is_marked}
use Rattle.aml_findings.proofs.Lacking.{not_alone}
use Rattle.aml_findings.proofs.lacks.alone.Goals as goal

pub returns-in-len1-up : goal.returns-in-len1-up
returns-in-len1-up c = sym (not_alone (is_marked c.args.targets.now.locals) c.args.local c.args.parts.now c.in-len1-up.len_at_least)
