use Rattle.std.proofs.Common.{map}
use Rattle.aml_operators.specs.Tree.{view}
use Rattle.aml_verify.proofs.Finding.{read_found}
use Rattle.aml_verify.proofs.verifier.Verifier.judge_body.Goals as goal

pub kept-kept-requires : goal.kept-kept-requires
kept-kept-requires c = c.args.self.now.read.all c.args.id.0 c.args.method c.requires.there (map view c.args.body.now) c.requires.read.is

pub returns : goal.returns
returns c = λ is.
    read_found c.args.self.now c.args.id.0 c.args.method c.in_ok-verdict.verdict c.in_ok-verdict.integers c.requires.there (c.in_ok-verdict.ensures.said is) (c.in_ok-verdict.ensures.marks is)
