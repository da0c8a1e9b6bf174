use Rattle.std.proofs.Common.{map}
use Rattle.std.proofs.lemmas.Result.{err_from_is_err_and}
use Rattle.aml_own_names.specs.OwnNamesSeen.{owns_seen}
use Rattle.aml_namespace.specs.Shows.{shown}
use Rattle.aml_operators.specs.Tree.{view}
use Rattle.aml_bodies.proofs.Preparing.{prepared_is, prepared_shaped}
use Rattle.aml_bodies.proofs.Methods.{there}
use Rattle.aml_scene.proofs.Bodies.{stands}
use Rattle.aml_scene.proofs.Outcomes.{unread}
use Rattle.aml_plain.proofs.method.evaluate_tree.Goals as goal

pub returns : goal.returns
returns g c = λ m is around.
    let ns = shown c.args.namespace.now in
    let p = c.in_ok-bodies.bodies.first in
    let first = rw c.in_ok-bodies.ensures.first at c.in_ok-bodies.ensures.sound.first in
    let same = prepared_is ns around c.args.method.0 m p _ is first (c.requires.read.are m is) in
    let bytes = c.body_bytes.ensures m is in
    let place = stands ns around.bodies 63 c.args.method.0 m p.table p.opcode c.width.result c.body_bytes.result.now (owns_seen p.owns) (map view p.body.items) (first.table m is) (first.opcode m is) c.width.ensures bytes (rw bytes (first.owns m is)) in
    rw (c.deref.ensures.value, place, same) at (c.evaluate_body.ensures around)

pub invariant_of-scene : goal.invariant_of-scene
invariant_of-scene g c =
    let first = rw c.in_ok-bodies.ensures.first at c.in_ok-bodies.ensures.sound.first in
    let m = there (shown c.args.namespace.now) c.args.method.0 c.requires.known in
    record { meant = rw (c.body_bytes.ensures m.0 m.1) (first.links m.0 m.1) }

pub invariant_of-here : goal.invariant_of-here
invariant_of-here g c = record { sound = c.in_ok-bodies.ensures.sound }

pub evaluate_body-requires : goal.evaluate_body-requires
evaluate_body-requires g c =
    let first = rw c.in_ok-bodies.ensures.first at c.in_ok-bodies.ensures.sound.first in
    rw c.deref.ensures.value (prepared_shaped (shown c.args.namespace.now) c.args.method.0 _ c.requires.known first)

pub returns-in_err-prepared : goal.returns-in_err-prepared
returns-in_err-prepared g c = λ m is around.
    let p = err_from_is_err_and c.from_residual.result c.from_residual.ensures.1 in
    rw p.1 (unread _ _ _ _ _ _ _)

pub returns-in_err-bodies : goal.returns-in_err-bodies
returns-in_err-bodies g c = λ m is around.
    let p = err_from_is_err_and c.from_residual-in_err-bodies.result c.from_residual-in_err-bodies.ensures.1 in
    rw p.1 (unread _ _ _ _ _ _ _)
