use Rattle.std.proofs.Common.{◌≡◌, ◌<◌, List, length, Some, sym, subst}
use Rattle.aml_kinds.specs.Kinds.{Shape}
use Rattle.aml_shapes.specs.Keys.{AreBelow, key_shape}
use Rattle.aml_shapes.specs.Numbers.{Keeps, numbered}
use Rattle.aml_shapes.specs.Tables.{shapes_kept}
use Rattle.aml_shapes.proofs.TableLaws.{below_kept, keeps_answered, number_answered, number_stands}
use Rattle.aml_shapes.proofs.table.ShapeTable.add.Goals as goal

pub returns-in-Some-clause-number : goal.returns-in-Some-clause-number
returns-in-Some-clause-number c =
    let key = c.args.key in
    let n = c.in-Some.number in
    subst (λ (shapes : List Shape). (n < length shapes) × (numbered shapes n ≡ key_shape (numbered shapes) key)) c.self.view_is
    (number_stands c.self.inside.shapes.items c.self.inside.numbers key (Some n) c.self.invariant (sym c.in-Some.ensures))

pub put-requires-clause-below : goal.put-requires-clause-below
put-requires-clause-below c =
    let ks = c.self.inside.shapes.items in
    let ps = c.args.key.parts.items in
    below_kept ks ps (subst (λ (shapes : List Shape). AreBelow (length shapes) ps) (sym c.self.view_is) c.requires.below)

pub returns-clause-number : goal.returns-clause-number
returns-clause-number c =
    number_answered c.put.result c.self.inside.shapes.items c.put.new.shapes.items c.put.new.numbers c.args.key c.put.ensures.table c.put.ensures.number c.put.ensures.put

pub returns-clause-keeps : goal.returns-clause-keeps
returns-clause-keeps c =
    let old = c.self.inside.shapes.items in
    let new = c.put.new.shapes.items in
    subst (λ (shapes : List Shape). Keeps shapes (shapes_kept new)) c.self.view_is (keeps_answered c.put.result old new c.args.key c.put.ensures.put c.put.ensures.stays)
