use Rattle.aml_known.proofs.Numbered.{shape_within}
use Rattle.aml_known.proofs.known.Known.is_within.Goals as goal

pub returns-in-Pkg-Pkg : goal.returns-in-Pkg-Pkg
returns-in-Pkg-Pkg c = λ shapes are.
    shape_within shapes are c.args.self c.args.other c.in-Pkg-Pkg.s c.in-Pkg-Pkg.t c.in-Pkg-Pkg.is-0 c.in-Pkg-Pkg.is-1
