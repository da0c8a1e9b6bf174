use Rattle.aml_literal_laws.proofs.Literals.{literals_are_small}
use Rattle.aml_literal_laws.proofs.literals_are_small.Goals as goal

pub returns : goal.returns
returns c = literals_are_small
