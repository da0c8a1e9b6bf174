use Rattle.std.proofs.Common.{◌∙◌, sym, ap, subst}
use Rattle.std.proofs.lemmas.Result.{err_from_is_err_and}
use Rattle.aml_operators.specs.Shape.{operator_of}
use Rattle.aml_operators.specs.Tree.{Tree, stop_of}
use Rattle.aml_meaning.specs.Actions.{action}
use Rattle.aml_meaning.proofs.Runs.{runs_stop_with}
use Rattle.aml_places.proofs.Parts.{name_and_target}
use Rattle.aml_places.proofs.Spots.{name_is_target}
use Rattle.aml_quick.specs.Settings.{calls_of, count_of, setting_of}
use Rattle.aml_direct.proofs.Operands.{later_target}
use Rattle.aml_direct.proofs.Leaves.{IsLeaf, asked_alone, condition_outside, leaf_letters, leaf_stops, no_target_letters, target_there}
use Rattle.aml_direct.proofs.operand.condition.Goals as goal

pub target_at-op-requires : goal.target_at-op-requires
target_at-op-requires c =
    let r = c.requires in
    let p = name_and_target (count_of c.args.here.scene.now) c.args.bytes.now r.own c.args.at r.stop r.parts r.lie in
    target_there (count_of c.args.here.scene.now) c.args.bytes.now c.args.at p.a p.lies

pub returns-in_default : goal.returns-in_default
returns-in_default c = λ around s stop parts lie.
    let count = count_of c.args.here.scene.now in
    let p = name_and_target count c.args.bytes.now c.args.own c.args.at stop parts lie in
    let f = c.target_at-op.ensures.is count p.a (name_is_target count c.args.bytes.now c.args.at p.a p.lies) in
    record { runs = rw (p.is, condition_outside (setting_of c.args.here around) c.args.own p.a p.g (λ e. c.in_default.not-Name (c.action_of.ensures ∙ sym (ap (λ (t : Tree). action (operator_of t)) f.is) ∙ e)), c.fails.ensures) (runs_stop_with _ _); next = tt }

pub target_at-target-requires : goal.target_at-target-requires
target_at-target-requires c =
    let r = c.requires in
    let count = count_of c.args.here.scene.now in
    let p = name_and_target count c.args.bytes.now r.own c.args.at r.stop r.parts r.lie in
    let f = c.target_at-op.ensures.is count p.a (name_is_target count c.args.bytes.now c.args.at p.a p.lies) in
    let e = leaf_stops count c.target_at-op.result.0 c.args.bytes.now c.args.at c.target_at-op.result.1 p.a f (leaf_letters _ (subst IsLeaf (sym c.in-Name.is ∙ c.action_of.ensures) tt)) in
    record { count = count; tree = p.g; lies = later_target count c.args.bytes.now c.target_at-op.result.1 (stop_of p.a) p.g e p.target }

pub returns-in_err-said : goal.returns-in_err-said
returns-in_err-said c = λ around s stop parts lie.
    let count = count_of c.args.here.scene.now in
    let p = name_and_target count c.args.bytes.now c.args.own c.args.at stop parts lie in
    let f = c.target_at-op.ensures.is count p.a (name_is_target count c.args.bytes.now c.args.at p.a p.lies) in
    let e = leaf_stops count c.target_at-op.result.0 c.args.bytes.now c.args.at c.target_at-op.result.1 p.a f (leaf_letters _ (subst IsLeaf (sym c.in-Name.is ∙ c.action_of.ensures) tt)) in
    let k = c.target_at-target.ensures.is count p.g (later_target count c.args.bytes.now c.target_at-op.result.1 (stop_of p.a) p.g e p.target) in
    let r = err_from_is_err_and c.from_residual.result c.from_residual.ensures.1 in
    rw (r.1, r.2) (record { runs = rw (p.is, f.is, k.is, ← c.action_of.ensures, c.in-Name.is, ← c.action_of-2.ensures) (c.in_err-said.ensures (calls_of c.args.here around) s); next = tt })

pub returns : goal.returns
returns c = λ around s stop parts lie.
    let count = count_of c.args.here.scene.now in
    let p = name_and_target count c.args.bytes.now c.args.own c.args.at stop parts lie in
    let f = c.target_at-op.ensures.is count p.a (name_is_target count c.args.bytes.now c.args.at p.a p.lies) in
    let e = leaf_stops count c.target_at-op.result.0 c.args.bytes.now c.args.at c.target_at-op.result.1 p.a f (leaf_letters _ (subst IsLeaf (sym c.in-Name.is ∙ c.action_of.ensures) tt)) in
    let k = c.target_at-target.ensures.is count p.g (later_target count c.args.bytes.now c.target_at-op.result.1 (stop_of p.a) p.g e p.target) in
    let runs = c.in_ok-said.ensures (calls_of c.args.here around) s in
    let alone = asked_alone (setting_of c.args.here around) c.args.own c.args.at c.action_of-2.result _ _ _ runs in
    record {
      runs = rw (p.is, f.is, k.is, ← c.action_of.ensures, c.in-Name.is, ← c.action_of-2.ensures) runs;
      next = leaf_stops count c.target_at-target.result.0 c.args.bytes.now c.target_at-op.result.1 c.target_at-target.result.1 p.g k (no_target_letters _ (sym c.action_of-2.ensures ∙ alone)) ∙ sym p.ends;
    }
