use Rattle.std.proofs.Common.{◌≡◌, ◌<◌, ◌≤◌, List, Some, length, get_or, slice_get, subst, sym, ap, ◌∙◌, arith}
use Rattle.std.proofs.lemmas.Bool.Decides.{nat_tests}
use Rattle.std.proofs.lemmas.Option.{slice_get-get_or}
use Rattle.aml_kinds.specs.Kinds.{Shape}
use Rattle.aml_shapes.specs.Tables.{Stands}
use Rattle.aml_shapes.specs.declared.kept.Kept.{Kept}
use Rattle.aml_shapes.proofs.TableLaws.{length-kept, stands}
use Rattle.aml_shapes.proofs.table.ShapeTable.kept.Goals as goal

pub returns-in-Some-clause-stands : goal.returns-in-Some-clause-stands
returns-in-Some-clause-stands c =
    let ks = c.self.inside.shapes.items in
    let k = c.in-Some.kept.now in
    let n = c.args.shape.0 in
    let lt : n < length c.deref.result.now = grind (arith, nat_tests, c.in-Some.ensures.lookup.0) in
    let there : n < length ks = subst (λ (each : List Kept). n < length each) c.deref.ensures.value lt in
    let at : k ≡ get_or ks n k = c.in-Some.ensures.lookup.1 ∙ ap (λ (each : List Kept). get_or each n k) c.deref.ensures.value in
    let is : slice_get ks n ≡ Some k = slice_get-get_or ks n k there ∙ ap Some (sym at) in
    subst (λ (shapes : List Shape). Stands shapes n k) c.self.view_is (stands ks c.self.inside.numbers n k c.self.invariant is)

pub returns-in-None-clause-there : goal.returns-in-None-clause-there
returns-in-None-clause-there c =
    let ks = c.self.inside.shapes.items in
    let past : length c.deref.result.now ≤ c.args.shape.0 = grind (arith, nat_tests, c.in-None.ensures.lookup.0) in
    let lent : length c.deref.result.now ≡ length ks = ap length c.deref.ensures.value in
    let seen : length c.args.self.now ≡ length ks = ap (λ (shapes : List Shape). length shapes) (sym c.self.view_is) ∙ length-kept ks in
    omega arith
