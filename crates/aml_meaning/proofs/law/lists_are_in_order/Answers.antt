use Rattle.aml_meaning.proofs.InOrder.{lists_in_order, bodies_in_order}
use Rattle.aml_meaning.proofs.law.lists_are_in_order.Goals as goal

pub returns-clause-lists : goal.returns-clause-lists
returns-clause-lists c = lists_in_order

pub returns-clause-bodies : goal.returns-clause-bodies
returns-clause-bodies c = bodies_in_order
