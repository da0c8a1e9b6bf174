use Rattle.std.proofs.Common.{List, subst}
use Rattle.std.proofs.lemmas.Result.{IfOk-weaker}
use Rattle.aml_operators.specs.Tree.{views}
use Rattle.aml_kinds.specs.Kinds.{Shape}
use Rattle.aml_shapes.specs.Literals.{IsLiteral, literal_kind}
use Rattle.aml_shapes.specs.Numbers.{Tells}
use Rattle.aml_shapes.proofs.LiteralKinds.{literal_is}
use Rattle.aml_shapes.proofs.table.ShapeTable.find.Goals as goal

pub returns : goal.returns
returns c =
    let parts = views c.args.parts.now in
    let left = c.kind.new.numbers.0.now in
    IfOk-weaker c.kind.result (λ k. Tells left k (literal_kind c.args.width c.args.op parts)) (IsLiteral c.args.self.now c.args.width c.args.op parts)
    (λ k told. subst (λ (shapes : List Shape). IsLiteral shapes c.args.width c.args.op parts k) (c.kind.ensures.stays tt) (literal_is left c.args.width c.args.op parts k told.0 told.1))
    c.kind.ensures.known
