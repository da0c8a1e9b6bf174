use Rattle.aml_namespace.specs.Shows.{shown}
use Rattle.aml_bodies.proofs.Methods.{are_statements}
use Rattle.aml_plain_tests.proofs.plain.outcome_of_terms.Goals as goal

-- the body was read
pub evaluate_tree-answer-requires-clause-read : goal.evaluate_tree-answer-requires-clause-read
evaluate_tree-answer-requires-clause-read c = are_statements (shown c.args.namespace.now) 9 _ c.in-Ok.ensures
