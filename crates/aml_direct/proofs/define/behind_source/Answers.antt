use Rattle.std.proofs.Common.{◌∙◌, sym}
use Rattle.aml_namespace.specs.Shows.{shown}
use Rattle.aml_scene.specs.Tells.{link_in}
use Rattle.aml_places.proofs.Inversion.{called}
use Rattle.aml_quick.specs.Settings.{count_of, setting_of}
use Rattle.aml_direct.proofs.Calls.{is_read}
use Rattle.aml_direct.proofs.Fields.{data_takes, found_none, found_some, source_coded, source_named, source_other}
use Rattle.aml_direct.proofs.define.behind_source.Goals as goal

pub returns-then-is_some : goal.returns-then-is_some
returns-then-is_some c = λ around t lies.
    let p = found_some c.op_at.result (sym c.is_some.ensures ∙ c.if-is_some.true) in
    source_coded (count_of c.args.here.scene.now) (setting_of c.args.here around) c.args.bytes.now c.args.at t lies p.0.0 p.0.1 (sym c.op_at.ensures.is ∙ p.1)

pub name_end-requires : goal.name_end-requires
name_end-requires c =
    let none = sym c.op_at.ensures.is ∙ found_none c.op_at.result (sym c.is_some.ensures ∙ c.if-is_some.false) in
    let k = called (count_of c.args.here.scene.now) c.args.bytes.now c.args.at none c.requires.it c.requires.lies in
    is_read k.spelt

pub returns-in-Data : goal.returns-in-Data
returns-in-Data c = λ around t lies.
    let none = sym c.op_at.ensures.is ∙ found_none c.op_at.result (sym c.is_some.ensures ∙ c.if-is_some.false) in
    let is = rw c.link_of.ensures at c.in-Data.is in
    source_named (count_of c.args.here.scene.now) (setting_of c.args.here around) c.args.bytes.now c.args.at t lies c.name_end.result none
    (λ name. data_takes (shown c.args.here.scene.now.namespace.now) c.args.here.scene.now.links.now c.args.at (link_in c.args.here.scene.now c.args.at) is) c.name_end.ensures.is

pub returns-in_default : goal.returns-in_default
returns-in_default c = λ around t lies.
    let none = sym c.op_at.ensures.is ∙ found_none c.op_at.result (sym c.is_some.ensures ∙ c.if-is_some.false) in
    source_other (count_of c.args.here.scene.now) (setting_of c.args.here around) c.args.bytes.now c.args.at t lies none
    (λ i e. c.in_default.not-Data i (c.link_of.ensures ∙ e)) (λ i e. c.in_default.not-Own i (c.link_of.ensures ∙ e))
