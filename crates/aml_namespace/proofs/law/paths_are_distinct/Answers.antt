use Rattle.aml_namespace.proofs.Settling.{paths_distinct}
use Rattle.aml_namespace.proofs.law.paths_are_distinct.Goals as goal

pub returns : goal.returns
returns c = paths_distinct
