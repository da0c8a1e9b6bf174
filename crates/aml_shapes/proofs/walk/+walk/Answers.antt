use Rattle.std.proofs.Common.{◌≡◌, ◌<◌, ◌++◌, List, [], ◌∷◌, length, map, take, sym, ap, subst, ◌∙◌, arith}
use Rattle.aml_shapes.specs.Keys.{AreBelow, part_kind}
use Rattle.aml_shapes.specs.Numbers.{numbered}
use Rattle.aml_shapes.specs.declared.key.Part.{Part}
use Rattle.aml_shapes.proofs.PartsTold.{below_pushed, keeps_on, kinds_more, number_told}
use Rattle.aml_shapes.proofs.walk.+walk.Goals as goal

pub package-returns-clause-number : goal.package-returns-clause-number
package-returns-clause-number g t c =
    let shapes = g.N.Numbering.shapes in
    let is = c.first_terms-kept.ensures ∙ ap (take c.args.count) c.behind_first-terms.ensures.parts in
    number_told c.args.width c.number_of.result c.args.count c.args.parts.now c.first_terms-kept.result.now c.in_ok-told.told.items (shapes c.parts_in.new.numbers) (shapes c.number_of.new.self) is c.in_ok-told.ensures.parts.1 c.in_ok-told.ensures.parts.0 c.number_of.ensures.keeps c.number_of.ensures.number

pub parts_in-loop-term-preserved : goal.parts_in-loop-term-preserved
parts_in-loop-term-preserved g t c =
    let shapes = g.N.Numbering.shapes in
    let old = shapes c.loop-term.numbers in
    let new = shapes c.part_of.new.numbers in
    let parts = c.loop-term.parts.items in
    let part = c.in_ok-part.part in
    let i = c.loop-term.term-index in
    let terms = c.args.terms.now in
    let before = c.loop-term.invariant in
    let told = c.in_ok-part.ensures in
    let pushed : c.push.new.self.items ≡ parts ++ part ∷ [] = c.in_ok-push.ensures.items in
    let there : i < length terms = omega arith in
    record {
      below = subst (λ (ps : List Part). AreBelow (length new) ps) (sym pushed) (below_pushed (length old) (length new) parts part told.keeps.longer before.below told.part.0);
      kinds = ap (map (part_kind (numbered new))) pushed ∙ kinds_more c.args.width old new terms i c.term-item.result parts part there c.term-item.is told.keeps before.below before.kinds told.part.1;
      keeps = keeps_on _ old new before.keeps told.keeps;
      stays = λ s. told.stays s ∙ before.stays s;
    }
