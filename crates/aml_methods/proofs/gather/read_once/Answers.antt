use Rattle.std.proofs.Common.{◌++◌, List, map, ap, ◌∙◌, rules}
use Rattle.std.specs.Prelude.{IsSome}
use Rattle.aml_bodies.proofs.Methods.{are_statements}
use Rattle.aml_calls.specs.Calls.{calls_of}
use Rattle.aml_calls.specs.Pairs.{numbers}
use Rattle.aml_namespace.specs.Names.{link_with_owns, method_at}
use Rattle.aml_namespace.specs.Shows.{shown}
use Rattle.aml_operators.specs.declared.term.Term.{Term}
use Rattle.aml_operators.specs.Tree.{view, views}
use Rattle.aml_own_names.specs.OwnNamesSeen.{owns_seen}
use Rattle.aml_paths.specs.declared.scope.ObjectId.{ObjectId}
use Rattle.aml_methods.proofs.Calls.{refused_calls, there}
use Rattle.aml_methods.proofs.Keeping.{kept_calls, none_found, read_found, refused_found}
use Rattle.aml_methods.proofs.gather.read_once.Goals as goal

pub returns-in-Err-Refused-clause-called : goal.returns-in-Err-Refused-clause-called
returns-in-Err-Refused-clause-called c = λ told all J.
    ap numbers c.new-callees.ensures.items
    ∙ refused_calls (shown c.args.namespace.now) c.args.id.0 c.in-Err-Refused.field-0 c.in-Err-Refused.field-0-0 c.in-Err-Refused.field-0-is c.in-Err-Refused.ensures told all J

pub returns-in-Err-Refused-clause-kept : goal.returns-in-Err-Refused-clause-kept
returns-in-Err-Refused-clause-kept c =
    refused_found (shown c.args.namespace.now) c.args.id.0 c.in-Err-Refused.field-0 c.in-Err-Refused.field-0-0 c.in-Err-Refused.field-0-is c.in-Err-Refused.ensures

pub returns-then-is_none-clause-kept : goal.returns-then-is_none-clause-kept
returns-then-is_none-clause-kept c = none_found (shown c.args.namespace.now) c.args.id.0 (search rules)

pub keep_body-requires-clause-read : goal.keep_body-requires-clause-read
keep_body-requires-clause-read c = rw c.deref.ensures.value (are_statements (shown c.args.namespace.now) c.args.id.0 (map view c.in-Ok.body.items) c.in-Ok.ensures)

pub returns-clause-called : goal.returns-clause-called
returns-clause-called c =
    let ns = shown c.args.namespace.now in
    let k = c.args.id.0 in
    let known : IsSome (method_at ns k) = search rules in
    let m = there (method_at ns k) known in
    let links = link_with_owns ns.entries k c.body_bytes.result.now (owns_seen c.in_ok-kept.kept.owns) in
    kept_calls ns k m.0 (map view c.in-Ok.body.items) c.body_bytes.result.now c.in_ok-kept.kept (numbers c.gather_all.new.callees.items) m.1
    (c.in-Ok.ensures m.0 m.1) (c.body_bytes.ensures m.0 m.1) c.in_ok-kept.ensures
    (c.in_ok-gather_all.ensures
    ∙ ap (λ (ks : List ObjectId). numbers ks ++ calls_of links (views c.deref-2.result.now)) c.new-callees.ensures.items
    ∙ ap (λ (ts : List Term). calls_of links (views ts)) c.deref-2.ensures.value)

pub returns-clause-kept : goal.returns-clause-kept
returns-clause-kept c = read_found (shown c.args.namespace.now) c.args.id.0 c.in_ok-kept.kept c.in_ok-kept.ensures

pub returns-clause-trees : goal.returns-clause-trees
returns-clause-trees c = λ are. c.keep.ensures (shown c.args.namespace.now) are (are_statements (shown c.args.namespace.now) c.args.id.0 _ c.in-Ok.ensures)
