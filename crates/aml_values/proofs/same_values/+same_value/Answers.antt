use Rattle.std.proofs.Common.{sym}
use Rattle.aml_values.proofs.Lengths.{same_elements-differ}
use Rattle.aml_values.proofs.same_values.+same_value.Goals as goal

pub all_match-returns-then-ds-es : goal.all_match-returns-then-ds-es
all_match-returns-then-ds-es t c = sym (same_elements-differ c.args.ds.now c.args.es.now c.if-ds-es.true)
