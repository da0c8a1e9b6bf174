use Rattle.std.proofs.Common.{◌≡◌, ◌<◌, List, length, IfSome, sym, subst}
use Rattle.aml_kinds.specs.Kinds.{Shape}
use Rattle.aml_shapes.specs.Keys.{key_shape}
use Rattle.aml_shapes.specs.Numbers.{numbered}
use Rattle.aml_shapes.proofs.TableLaws.{number_stands}
use Rattle.aml_shapes.proofs.table.ShapeTable.number.Goals as goal

pub returns : goal.returns
returns c =
    let o = c.looked_up.result in
    let key = c.args.key.now in
    subst (λ (shapes : List Shape). IfSome o (λ n. (n < length shapes) × (numbered shapes n ≡ key_shape (numbered shapes) key))) c.self.view_is (number_stands c.self.inside.shapes.items c.self.inside.numbers key o c.self.invariant (sym c.looked_up.ensures))
