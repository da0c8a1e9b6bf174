use Rattle.std.proofs.Common.{sym, ◌∙◌}
use Rattle.aml_operators.specs.Tree.{trees}
use Rattle.aml_places.proofs.Inversion.{called, form, standing_code}
use Rattle.aml_scene.proofs.Written.{indexed_elsewhere}
use Rattle.aml_quick.specs.Settings.{calls_of, count_of, setting_of}
use Rattle.aml_direct.proofs.Simple.{indexed_into}
use Rattle.aml_direct.proofs.Terms.{invocation_has_none, name_has_none}
use Rattle.aml_direct.proofs.index.indexed.Goals as goal

pub returns-in-None-clause-means : goal.returns-in-None-clause-means
returns-in-None-clause-means c = λ around log t lies.
    let k = called (count_of c.args.here.scene.now) c.args.bytes.now c.args.at (sym c.op_at.ensures.is ∙ c.in-None.is) t lies in
    rw (c.in-NoTarget.is, k.is) (c.bound.ensures.means (calls_of c.args.here around) log)

pub returns-in-None-clause-falls : goal.returns-in-None-clause-falls
returns-in-None-clause-falls c = c.bound.ensures.falls

pub returns-in-Some-clause-means : goal.returns-in-Some-clause-means
returns-in-Some-clause-means c = λ around log t lies.
    let o = c.in-Some.field-0.0 in
    let next = c.in-Some.field-0.1 in
    let is = sym c.op_at.ensures.is ∙ c.in-Some.is in
    let f = form (count_of c.args.here.scene.now) c.args.bytes.now c.args.at o next is t lies in
    let code = standing_code c.args.bytes.now c.args.at o next is in
    rw (c.in-NoTarget.is, f.is, indexed_elsewhere (setting_of c.args.here around) c.args.own _ c.args.at (trees f.parts) (name_has_none o code) (invocation_has_none o code)) (c.refused.ensures.means (calls_of c.args.here around) log)

pub returns-in-Some-clause-falls : goal.returns-in-Some-clause-falls
returns-in-Some-clause-falls c = c.refused.ensures.falls

pub returns-in_default : goal.returns-in_default
returns-in_default c = record {
  means = λ around log t lies. rw (indexed_into (setting_of c.args.here around) c.args.own c.args.target t c.in_default.not-NoTarget) (c.refused-in_default.ensures.means (calls_of c.args.here around) log);
  falls = c.refused-in_default.ensures.falls;
}
