use Rattle.std.proofs.Common.{take, length, ◌≡◌, arith}
use Rattle.std.proofs.lemmas.List.{length-take-le}
use Rattle.aml_tree.proofs.Bodies.{body_reads}
use Rattle.aml_tree.proofs.body.read_body.Goals as goal

pub returns : goal.returns
returns g c =
    let l : length (take c.args.span.end c.args.bytes.now) ≡ c.args.span.end = length-take-le c.args.span.end c.args.bytes.now c.requires.within in
    body_reads (g.A.Arity.counts c.args.arity.now) (take c.args.span.end c.args.bytes.now) c.args.span.at (omega (arith, l, c.requires.ordered)) c.read_statements.result c.read_statements.ensures
