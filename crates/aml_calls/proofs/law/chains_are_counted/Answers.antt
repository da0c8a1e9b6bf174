use Rattle.aml_calls.proofs.ChainLaws as laws
use Rattle.aml_calls.proofs.law.chains_are_counted.Goals as goal

pub returns : goal.returns
returns c = laws.chains_are_counted
