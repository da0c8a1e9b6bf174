use Rattle.std.proofs.lemmas.Result.{IfOk-weaker}
use Rattle.aml_operators.specs.Tree.{views}
use Rattle.aml_shapes.specs.Literals.{IsLiteral, literal_kind}
use Rattle.aml_shapes.specs.Numbers.{Tells}
use Rattle.aml_shapes.proofs.LiteralKinds.{literal_is}
use Rattle.aml_shapes.proofs.table.ShapeTable.intern.Goals as goal

pub returns-clause-known : goal.returns-clause-known
returns-clause-known c =
    let parts = views c.args.parts.now in
    let shapes = c.kind.new.numbers in
    IfOk-weaker c.kind.result (λ k. Tells shapes k (literal_kind c.args.width c.args.op parts)) (IsLiteral shapes c.args.width c.args.op parts)
    (λ k told. literal_is shapes c.args.width c.args.op parts k told.0 told.1)
    c.kind.ensures.known
