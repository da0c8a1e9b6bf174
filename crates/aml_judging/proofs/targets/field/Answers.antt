use Rattle.std.proofs.Common.{◌≡◌, Ok, Err, sym}
use Rattle.std.proofs.lemmas.Result.{err_from_is_err_and}
use Rattle.aml_judged.specs.Judge.{place_at}
use Rattle.aml_judged.specs.KindRules.{given_kind}
use Rattle.aml_known.specs.Views.{kind_of}
use Rattle.aml_regions.specs.Fields.{layout_of}
use Rattle.aml_judging.proofs.Stored.{field_refused, field_stored}
use Rattle.aml_judging.proofs.targets.field.Goals as goal

pub returns-in_err-given_kind : goal.returns-in_err-given_kind
returns-in_err-given_kind g c = λ env.
    let p = err_from_is_err_and c.from_residual.result c.from_residual.ensures.1 in
    let h : given_kind (g.A.Around.around c.args.here.now).width (place_at (g.A.Around.around c.args.here.now) c.args.at) (layout_of c.in-Some.field).bits (kind_of (g.A.Shapes.numbered c.args.here.now) c.args.kind) ≡ Err c.in_err-given_kind.field-0.0 = rw (← c.width.ensures, ← c.place.ensures, ← c.layout-bits.ensures) (sym (c.in_err-given_kind.ensures (g.A.Shapes.numbered c.args.here.now))) in
    rw (c.in-Some.is, p.1, p.2) (field_refused (g.A.Around.around c.args.here.now) c.args.at (kind_of (g.A.Shapes.numbered c.args.here.now) c.args.kind) c.in-Some.field c.in_err-given_kind.field-0.0 h env)

pub returns : goal.returns
returns g c = λ env.
    let h : given_kind (g.A.Around.around c.args.here.now).width (place_at (g.A.Around.around c.args.here.now) c.args.at) (layout_of c.in-Some.field).bits (kind_of (g.A.Shapes.numbered c.args.here.now) c.args.kind) ≡ Ok tt = rw (← c.width.ensures, ← c.place.ensures, ← c.layout-bits.ensures) (sym (c.in_ok-given_kind.ensures (g.A.Shapes.numbered c.args.here.now))) in
    rw (c.in-Some.is, c.write_count.ensures) (field_stored (g.A.Around.around c.args.here.now) c.args.at (kind_of (g.A.Shapes.numbered c.args.here.now) c.args.kind) c.in-Some.field h env)
