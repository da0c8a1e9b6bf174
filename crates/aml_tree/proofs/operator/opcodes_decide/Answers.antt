use Rattle.aml_tree.proofs.Inversion.{operators, names}
use Rattle.aml_tree.proofs.operator.opcodes_decide.Goals as goal

pub returns-clause-operators : goal.returns-clause-operators
returns-clause-operators c = operators

pub returns-clause-names : goal.returns-clause-names
returns-clause-names c = names
