use Rattle.std.proofs.Common.{◌∙◌, ◌+◌, ℕ, sym, ap, subst}
use Rattle.std.proofs.lemmas.Result.{err_from_is_err_and}
use Rattle.aml_operators.specs.declared.row.NumberSize.TheVariants.{Word}
use Rattle.aml_operators.specs.Tree.{stop_of}
use Rattle.aml_places.proofs.Parts.{name_and_number}
use Rattle.aml_places.proofs.Spots.{name_is_target}
use Rattle.aml_quick.specs.Settings.{calls_of, count_of, setting_of}
use Rattle.aml_direct.proofs.Leaves.{IsLeaf, acquired_leaf, leaf_letters, leaf_stops, target_there, word_ends}
use Rattle.aml_direct.proofs.mutex.eval_acquire.Goals as goal

pub target_at-op-requires : goal.target_at-op-requires
target_at-op-requires c =
    let r = c.requires in
    let p = name_and_number (count_of c.args.here.scene.now) c.args.bytes.now Word r.own c.args.at r.stop r.parts r.lie in
    target_there (count_of c.args.here.scene.now) c.args.bytes.now c.args.at p.a p.lies

pub returns-in_err-taken-clause-means : goal.returns-in_err-taken-clause-means
returns-in_err-taken-clause-means c = λ around log stop parts lie.
    let p = name_and_number (count_of c.args.here.scene.now) c.args.bytes.now Word c.args.own c.args.at stop parts lie in
    let f = c.target_at-op.ensures.is (count_of c.args.here.scene.now) p.a (name_is_target (count_of c.args.here.scene.now) c.args.bytes.now c.args.at p.a p.lies) in
    let e = err_from_is_err_and c.from_residual.result c.from_residual.ensures.1 in
    rw (e.1, e.2) (record { runs = rw (p.is, f.is, ← c.action_of.ensures) (c.in_err-taken.ensures.means (calls_of c.args.here around) log); next = tt })

pub returns-clause-means : goal.returns-clause-means
returns-clause-means c = λ around log stop parts lie.
    let p = name_and_number (count_of c.args.here.scene.now) c.args.bytes.now Word c.args.own c.args.at stop parts lie in
    let f = c.target_at-op.ensures.is (count_of c.args.here.scene.now) p.a (name_is_target (count_of c.args.here.scene.now) c.args.bytes.now c.args.at p.a p.lies) in
    let runs = c.in_ok-taken.ensures.means (calls_of c.args.here around) log in
    let leaf = subst IsLeaf c.action_of.ensures (acquired_leaf (setting_of c.args.here around) c.args.own c.args.at c.action_of.result _ _ _ runs) in
    let first = leaf_stops (count_of c.args.here.scene.now) c.target_at-op.result.0 c.args.bytes.now c.args.at c.target_at-op.result.1 p.a f (leaf_letters _ leaf) in
    record {
      runs = rw (p.is, f.is, ← c.action_of.ensures) runs;
      next = ap (λ (n : ℕ). n + 2) first ∙ sym (word_ends c.args.bytes.now (stop_of p.a) p.b p.second) ∙ sym p.ends;
    }
