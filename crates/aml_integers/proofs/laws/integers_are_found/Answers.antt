use Rattle.aml_integers.proofs.Order.{integers_are_one, order_decides}
use Rattle.aml_integers.proofs.laws.integers_are_found.Goals as goal

pub returns-clause-one : goal.returns-clause-one
returns-clause-one c = integers_are_one

pub returns-clause-found : goal.returns-clause-found
returns-clause-found c = order_decides
