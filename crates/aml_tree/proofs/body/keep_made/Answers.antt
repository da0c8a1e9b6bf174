use Rattle.std.proofs.Common.{◌≡◌, ℕ, List, Option, Some, subst}
use Rattle.aml_operators.specs.Tree.{view}
use Rattle.aml_tree.specs.Body.{segment_at, made_place, with_made}
use Rattle.aml_tree.specs.Owns.{Keeps}
use Rattle.aml_tree.proofs.Kept.{keeps_more}
use Rattle.aml_tree.proofs.body.keep_made.Goals as goal

pub returns-in_ok-insert-clause-ok : goal.returns-in_ok-insert-clause-ok
returns-in_ok-insert-clause-ok c =
    λ names keeps. let made : Some c.in-Some.segment.bytes ≡ segment_at c.args.bytes.now (made_place (view c.args.term.now)) = c.in-Some.ensures in
    subst (λ (o : Option (List ℕ)). Keeps c.insert.new.self (with_made names o)) made
    (keeps_more c.args.owns.now c.insert.new.self c.in-Some.segment names c.in_ok-insert.ensures.updates keeps)
