use Rattle.std.proofs.lemmas.Result.{err_from_is_err_and}
use Rattle.aml_operators.specs.Tree.{views}
use Rattle.aml_walk.proofs.Bodies.{body_judges, method_judges}
use Rattle.aml_walk.proofs.body.method.Goals as goal

pub returns-in_err-statements-clause-judges : goal.returns-in_err-statements-clause-judges
returns-in_err-statements-clause-judges g c =
    let p = err_from_is_err_and c.from_residual.result c.from_residual.ensures.1 in
    rw (p.1, p.2) (body_judges (g.A.Shapes.numbered c.args.here.now) (g.A.Around.around c.args.here.now) c.args.opcode (views c.args.body.now) c.in_err-statements.field-0.0 c.in_err-statements.ensures.judges)

pub returns-clause-judges : goal.returns-clause-judges
returns-clause-judges g c = method_judges (g.A.Shapes.numbered c.args.here.now) (g.A.Around.around c.args.here.now) (g.A.Around.around c.statements.new.here) c.args.opcode (views c.args.body.now) (g.A.Shapes.numbered c.statements.new.here) c.none_held.result c.in_ok-statements.ensures.shapes c.in_ok-statements.ensures.table c.in_ok-statements.ensures.judges c.none_held.ensures
