use Rattle.std.proofs.Common.{◌≡◌, Ok, Err, sym}
use Rattle.std.proofs.lemmas.Result.{err_from_is_err_and}
use Rattle.aml_judged.specs.Judge.{held_kind, place_at}
use Rattle.aml_judged.specs.KindRules.{buffer_field_stored_kind}
use Rattle.aml_known.specs.Views.{kind_of}
use Rattle.aml_judging.proofs.Stored.{buffer_field_refused, buffer_field_stored}
use Rattle.aml_judging.proofs.targets.buffer_field.Goals as goal

pub returns-in_err-buffer_field_stored_kind : goal.returns-in_err-buffer_field_stored_kind
returns-in_err-buffer_field_stored_kind g c = λ env.
    let p = err_from_is_err_and c.from_residual.result c.from_residual.ensures.1 in
    let h : buffer_field_stored_kind (g.A.Around.around c.args.here.now).width (place_at (g.A.Around.around c.args.here.now) c.args.at) c.in-Some.field (held_kind (g.A.Around.around c.args.here.now) c.in-Some.field.source) (kind_of (g.A.Shapes.numbered c.args.here.now) c.args.kind) ≡ Err c.in_err-buffer_field_stored_kind.field-0.0 = rw (← c.width.ensures, ← c.place.ensures, ← c.held_kind-source.ensures) (sym (c.in_err-buffer_field_stored_kind.ensures (g.A.Shapes.numbered c.args.here.now))) in
    rw (c.in-Some.is, p.1, p.2) (buffer_field_refused (g.A.Around.around c.args.here.now) c.args.at (kind_of (g.A.Shapes.numbered c.args.here.now) c.args.kind) c.in-Some.field c.in_err-buffer_field_stored_kind.field-0.0 h env)

pub returns : goal.returns
returns g c = λ env.
    let h : buffer_field_stored_kind (g.A.Around.around c.args.here.now).width (place_at (g.A.Around.around c.args.here.now) c.args.at) c.in-Some.field (held_kind (g.A.Around.around c.args.here.now) c.in-Some.field.source) (kind_of (g.A.Shapes.numbered c.args.here.now) c.args.kind) ≡ Ok tt = rw (← c.width.ensures, ← c.place.ensures, ← c.held_kind-source.ensures) (sym (c.in_ok-buffer_field_stored_kind.ensures (g.A.Shapes.numbered c.args.here.now))) in
    rw c.in-Some.is (buffer_field_stored (g.A.Around.around c.args.here.now) c.args.at (kind_of (g.A.Shapes.numbered c.args.here.now) c.args.kind) c.in-Some.field h env)
