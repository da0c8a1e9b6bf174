use Rattle.std.proofs.Common.{◌∙◌, sym, subst}
use Rattle.std.proofs.lemmas.Result.{err_from_is_err_and}
use Rattle.aml_places.proofs.Parts.{one_name}
use Rattle.aml_places.proofs.Spots.{name_is_target}
use Rattle.aml_quick.specs.Settings.{calls_of, count_of, setting_of}
use Rattle.aml_direct.proofs.Leaves.{IsLeaf, leaf_letters, leaf_stops, released_leaf, target_there}
use Rattle.aml_direct.proofs.mutex.eval_release.Goals as goal

pub target_at-op-requires : goal.target_at-op-requires
target_at-op-requires c =
    let r = c.requires in
    let p = one_name (count_of c.args.here.scene.now) c.args.bytes.now r.own c.args.at r.stop r.parts r.lie in
    target_there (count_of c.args.here.scene.now) c.args.bytes.now c.args.at p.a p.lies

pub returns-in_err-given-clause-means : goal.returns-in_err-given-clause-means
returns-in_err-given-clause-means c = λ around log stop parts lie.
    let p = one_name (count_of c.args.here.scene.now) c.args.bytes.now c.args.own c.args.at stop parts lie in
    let f = c.target_at-op.ensures.is (count_of c.args.here.scene.now) p.a (name_is_target (count_of c.args.here.scene.now) c.args.bytes.now c.args.at p.a p.lies) in
    let e = err_from_is_err_and c.from_residual.result c.from_residual.ensures.1 in
    rw (e.1, e.2) (record { runs = rw (p.is, f.is, ← c.action_of.ensures) (c.in_err-given.ensures.means (calls_of c.args.here around) log); next = tt })

pub returns-clause-means : goal.returns-clause-means
returns-clause-means c = λ around log stop parts lie.
    let p = one_name (count_of c.args.here.scene.now) c.args.bytes.now c.args.own c.args.at stop parts lie in
    let f = c.target_at-op.ensures.is (count_of c.args.here.scene.now) p.a (name_is_target (count_of c.args.here.scene.now) c.args.bytes.now c.args.at p.a p.lies) in
    let runs = c.in_ok-given.ensures.means (calls_of c.args.here around) log in
    let leaf = subst IsLeaf c.action_of.ensures (released_leaf (setting_of c.args.here around) c.args.own c.args.at c.action_of.result _ _ _ runs) in
    record {
      runs = rw (p.is, f.is, ← c.action_of.ensures) runs;
      next = leaf_stops (count_of c.args.here.scene.now) c.target_at-op.result.0 c.args.bytes.now c.args.at c.target_at-op.result.1 p.a f (leaf_letters _ leaf) ∙ sym p.ends;
    }
