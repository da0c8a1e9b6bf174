use Rattle.std.proofs.Common.{ap}
use Rattle.aml_kinds.specs.KindViews.{kind_of}
use Rattle.aml_kinds.proofs.Within.{within_told}
use Rattle.aml_kinds.proofs.joins.is_within.Goals as goal

pub returns-in-Pkg-Pkg : goal.returns-in-Pkg-Pkg
returns-in-Pkg-Pkg c =
    within_told c.shapes_match.result (kind_of c.args.j.now) (kind_of c.args.k.now) c.in-Pkg-Pkg.s c.in-Pkg-Pkg.t (cc) (ap kind_of c.in-Pkg-Pkg.is-0) (ap kind_of c.in-Pkg-Pkg.is-1)
