use Rattle.aml_tree.proofs.SameArity.{term_too}
use Rattle.aml_tree.proofs.operator.counts_within_decide.Goals as goal

pub returns : goal.returns
returns c = term_too
