use Rattle.aml_namespace.specs.Shows.{shown}
use Rattle.aml_bodies.proofs.Methods.{are_statements, there}
use Rattle.aml_plain.proofs.Methods.{evaluated_body}
use Rattle.aml_scene.proofs.Outcomes.{unread}
use Rattle.aml_plain.proofs.method.evaluate_plain.Goals as goal

pub unreachable-requires : goal.unreachable-requires
unreachable-requires g c =
    let m = there (shown c.args.namespace.now) c.args.method.0 c.requires.known in
    let body = c.requires.parses.tree m.0 m.1 in
    let refused = rw c.in-Err-Refused.field-0-is at (c.in-Err-Refused.ensures m.0 m.1) in
    refused.1 body.0 body.1

pub returns-in-Ok : goal.returns-in-Ok
returns-in-Ok g c = evaluated_body (shown c.args.namespace.now) c.args.method.0 _ _ _ _ _ _ _ _ c.in-Ok.ensures c.evaluate_tree.ensures

pub returns-in-Err-NoMemory : goal.returns-in-Err-NoMemory
returns-in-Err-NoMemory g c = λ m is ts body around. unread _ _ _ _ _ _ _

pub evaluate_tree-requires-clause-read : goal.evaluate_tree-requires-clause-read
evaluate_tree-requires-clause-read g c = are_statements (shown c.args.namespace.now) c.args.method.0 _ c.in-Ok.ensures
