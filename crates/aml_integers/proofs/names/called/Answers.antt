use Rattle.std.proofs.Common.{◌∙◌}
use Rattle.aml_integers.specs.Known.{body_in, marked, methods_in}
use Rattle.aml_integers.proofs.Alike.{called_as_name}
use Rattle.aml_integers.proofs.names.called.Goals as goal

pub returns-in_default : goal.returns-in_default
returns-in_default g c =
    let here = g.A.Around.around c.args.here.now in
    c.name.ensures (marked c.args.only.now)
    ∙ called_as_name (methods_in here) (body_in here) here.kinds.shared (marked c.args.only.now) c.args.link (λ id e. c.in_default.not-Method id e)
