use Rattle.std.proofs.Common.{◌∙◌, ◌+◌, sym, ap}
use Rattle.std.specs.Prelude.{◌&&◌}
use Rattle.aml_kinds.specs.KindViews.{shape_of}
use Rattle.aml_contents.specs.DataKinds.{unset_from}
use Rattle.aml_contents.proofs.DataWalk.{unset_next, unset_past}
use Rattle.aml_contents.proofs.data_kinds.are_unset.Goals as goal

pub returns-then-not-is_unset : goal.returns-then-not-is_unset
returns-then-not-is_unset c =
    let next = unset_next c.args.places.now c.loop-i.i c.index-places-i.result c.loop-i-test.true c.index-places-i.is in
    let left = unset_from (shape_of c.args.places.now) (c.loop-i.i + 1) in
    sym (next ∙ ap (λ b. b && left) (sym c.is_unset.ensures ∙ c.if-not-is_unset.true)) ∙ c.loop-i.invariant

pub loop-i-preserved : goal.loop-i-preserved
loop-i-preserved c =
    let next = unset_next c.args.places.now c.loop-i.i c.index-places-i.result c.loop-i-test.true c.index-places-i.is in
    let left = unset_from (shape_of c.args.places.now) (c.loop-i.i + 1) in
    sym (next ∙ ap (λ b. b && left) (sym c.is_unset.ensures ∙ c.if-not-is_unset.false)) ∙ c.loop-i.invariant

pub returns : goal.returns
returns c = sym (unset_past c.args.places.now c.loop-i.i c.loop-i-test.false) ∙ c.loop-i.invariant
