use Rattle.std.proofs.Common.{◌≡◌, sym}
use Rattle.aml_own_names.specs.OwnNames.{own_names}
use Rattle.aml_own_names.specs.OwnNamesSeen.{owns_seen}
use Rattle.aml_namespace.specs.Shows.{shown}
use Rattle.aml_bodies.proofs.Around.{around_there}
use Rattle.aml_bodies.proofs.Methods.{there}
use Rattle.aml_direct.proofs.Bodies.{evaluates_there, spares_there}
use Rattle.aml_quick.proofs.Bodies.{body_lies, body_there}
use Rattle.aml_direct.proofs.body.evaluate_direct.Goals as goal

pub unreachable-requires : goal.unreachable-requires
unreachable-requires g c =
    let none = rw c.in_default.is at c.kept_in.ensures in
    let some = rw (← none) at c.requires.first in
    absurd (cc some)

pub invariant_of-scene : goal.invariant_of-scene
invariant_of-scene g c =
    let m = there (shown c.args.namespace.now) c.args.method.0 c.requires.known in
    let kept = c.requires.kept.are c.args.method.0 c.in-Some.body.now (sym c.in-Some.ensures) in
    record { meant = rw (c.body_bytes-bytes.ensures m.0 m.1) (kept.links m.0 m.1) }

pub invariant_of-here : goal.invariant_of-here
invariant_of-here g c = record { sound = c.requires.kept }

pub eval_body-ended-requires : goal.eval_body-ended-requires
eval_body-ended-requires g c =
    let ns = shown c.args.namespace.now in
    let around = around_there ns in
    let m = there ns c.args.method.0 c.requires.known in
    let kept = c.requires.kept.are c.args.method.0 c.in-Some.body.now (sym c.in-Some.ensures) in
    let body = body_there ns around.bodies around.are c.args.method.0 m.0 m.1 (kept.read m.0 m.1 around.bodies around.are) in
    let bytes = c.body_bytes-bytes.ensures m.0 m.1 in
    record {
      it = body.0;
      lies = body_lies ns c.args.method.0 m.0 c.body_bytes-bytes.result.now (owns_seen c.in-Some.body.now.owns) c.in-Some.body.now.links c.in-Some.body.now.start body.0 bytes (rw bytes (kept.owns m.0 m.1 body.0 body.2)) (kept.start m.0 m.1) body.2 (kept.takes m.0 m.1 body.0 body.2);
    }

pub returns-clause-means : goal.returns-clause-means
returns-clause-means g c = λ m is ts body around.
    let ns = shown c.args.namespace.now in
    let kept = c.requires.kept.are c.args.method.0 c.in-Some.body.now (sym c.in-Some.ensures) in
    let bytes = c.body_bytes-bytes.ensures m is in
    let owns : owns_seen c.in-Some.body.now.owns ≡ own_names c.body_bytes-bytes.result.now ts = rw bytes (kept.owns m is ts body) in
    let lies = body_lies ns c.args.method.0 m c.body_bytes-bytes.result.now (owns_seen c.in-Some.body.now.owns) c.in-Some.body.now.links c.in-Some.body.now.start ts bytes owns (kept.start m is) body (kept.takes m is ts body) in
    let ran = rw (c.new.ensures _ c.of.ensures, c.unwatched.ensures.outside, c.unwatched.ensures.watched, c.replace.ensures.value) at (c.eval_body-ended.ensures.means around ts lies) in
    rw c.outcome_of.ensures (evaluates_there ns around.bodies c.args.method.0 m c.in-Some.body.now.table c.in-Some.body.now.opcode c.width.result c.body_bytes-bytes.result.now (owns_seen c.in-Some.body.now.owns) ts _ _ _ _ _ _ _ _ _ (kept.table m is) (kept.opcode m is) c.width.ensures bytes owns ran)

pub returns-clause-spares : goal.returns-clause-spares
returns-clause-spares g c = λ m is ts body around.
    let ns = shown c.args.namespace.now in
    let kept = c.requires.kept.are c.args.method.0 c.in-Some.body.now (sym c.in-Some.ensures) in
    let bytes = c.body_bytes-bytes.ensures m is in
    let owns : owns_seen c.in-Some.body.now.owns ≡ own_names c.body_bytes-bytes.result.now ts = rw bytes (kept.owns m is ts body) in
    let lies = body_lies ns c.args.method.0 m c.body_bytes-bytes.result.now (owns_seen c.in-Some.body.now.owns) c.in-Some.body.now.links c.in-Some.body.now.start ts bytes owns (kept.start m is) body (kept.takes m is ts body) in
    let ran = rw (c.new.ensures _ c.of.ensures, c.unwatched.ensures.outside, c.unwatched.ensures.watched, c.replace.ensures.value) at (c.eval_body-ended.ensures.means around ts lies) in
    rw c.outcome_of.ensures (spares_there ns around.bodies c.args.method.0 m c.in-Some.body.now.table c.in-Some.body.now.opcode c.width.result c.body_bytes-bytes.result.now (owns_seen c.in-Some.body.now.owns) ts _ _ _ _ _ _ _ _ _ (kept.table m is) (kept.opcode m is) c.width.ensures bytes owns ran)
