use Rattle.aml_judged.proofs.Sums.{costs_are_sums}
use Rattle.aml_judged.proofs.costs_are_sums.Goals as goal

pub returns : goal.returns
returns c = costs_are_sums
