use Rattle.std.proofs.Common.{◌∙◌}
use Rattle.aml_known.proofs.Numbered.{shapes_joined}
use Rattle.aml_known.proofs.known.Known.join.Goals as goal

pub returns-in-Pkg-Pkg : goal.returns-in-Pkg-Pkg
returns-in-Pkg-Pkg c = λ shapes are.
    c.if_same-in-Pkg-Pkg.ensures shapes
    ∙ shapes_joined shapes are c.args.self c.args.other c.in-Pkg-Pkg.s c.in-Pkg-Pkg.t c.in-Pkg-Pkg.is-0 c.in-Pkg-Pkg.is-1
