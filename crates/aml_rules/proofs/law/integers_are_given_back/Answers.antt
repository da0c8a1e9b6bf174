use Rattle.aml_rules.proofs.Bytewise.{given_back}
use Rattle.aml_rules.proofs.law.integers_are_given_back.Goals as goal

pub returns : goal.returns
returns c = given_back
