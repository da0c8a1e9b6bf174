use Rattle.std.proofs.Common.{refl}
use Rattle.std.proofs.lemmas.Result.{err_from_is_err_and}
use Rattle.aml_judging.proofs.names.buffer_field.Goals as goal

pub returns-in_err-source_kind : goal.returns-in_err-source_kind
returns-in_err-source_kind g c = λ env.
    let p = err_from_is_err_and c.from_residual.result c.from_residual.ensures.1 in
    rw (c.in-Some.is, p.1, p.2, ← c.place.ensures, ← c.held_kind-source.ensures, ← c.in_err-source_kind.ensures (g.A.Shapes.numbered c.args.here.now)) refl

pub returns : goal.returns
returns g c = λ env.
    rw (c.in-Some.is, ← c.place.ensures, ← c.held_kind-source.ensures, ← c.in_ok-source_kind.ensures (g.A.Shapes.numbered c.args.here.now), ← c.width.ensures, c.field_kind-kind.ensures (g.A.Shapes.numbered c.args.here.now)) refl
