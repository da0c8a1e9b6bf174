use Rattle.aml_namespace.specs.Shows.{shown}
use Rattle.aml_plain.proofs.Methods.{parsed}
use Rattle.aml_plain_tests.proofs.outcomes.outcome_in.Goals as goal

-- the body that was read is one
pub outcome_of_method-requires-clause-parses : goal.outcome_of_method-requires-clause-parses
outcome_of_method-requires-clause-parses g c = parsed (shown c.args.namespace.now) c.args.method.0 _ (λ m is. c.in-Ok.ensures m is)
