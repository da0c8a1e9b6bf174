use Rattle.aml_steady.proofs.Runs.{runs_keep}
use Rattle.aml_steady.proofs.runs_keep_kinds.Goals as goal

pub returns : goal.returns
returns c = runs_keep
