use Rattle.std.proofs.Common.{sym, arith}
use Rattle.aml_objects.specs.Widths.{bits_of}
use Rattle.aml_targets.specs.Marks.{is_marked}
use Rattle.aml_findings.proofs.Lacking.{no_comparison}
use Rattle.aml_findings.proofs.lacks.compared.Goals as goal

pub returns-in-empty : goal.returns-in-empty
returns-in-empty c = sym (no_comparison (bits_of c.args.width) (is_marked c.args.targets.now.locals) c.args.wanted c.args.parts.now (λ e. omega (arith, e, c.in-empty.len_below)))

pub returns-in-empty-2 : goal.returns-in-empty-2
returns-in-empty-2 c = sym (no_comparison (bits_of c.args.width) (is_marked c.args.targets.now.locals) c.args.wanted c.args.parts.now (λ e. omega (arith, e, c.in-empty.len_at_least)))
