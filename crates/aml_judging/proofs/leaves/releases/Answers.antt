use Rattle.std.proofs.Common.{◌≡◌, length, refl, arith}
use Rattle.std.proofs.lemmas.Result.{err_from_is_err_and}
use Rattle.aml_causes.specs.declared.cause.Cause.TheVariants as cause
use Rattle.aml_judged.specs.Judge.{refusal}
use Rattle.aml_judging.proofs.Leaving.{not_releasing, releases_it, releases_none, releases_stops}
use Rattle.aml_judging.proofs.OnlyParts.{one_part}
use Rattle.aml_judging.proofs.leaves.releases.Goals.{in_default-via-then-parts-lt1, in_default-via-else-parts-lt1+else-parts-lt2}
use Rattle.aml_judging.proofs.leaves.releases.Goals as goal

pub returns-in_default : goal.returns-in_default
returns-in_default g c = λ w.
    let differs : length c.args.parts.now ≡ 1 → ⊥ = λ same. elim c.in_default.branch [
      | in_default-via-then-parts-lt1 w ↦ grind (arith, same, w)
      | in_default-via-else-parts-lt1+else-parts-lt2 w ↦ grind (arith, same, w)
    ] in
    rw c.stop.ensures (not_releasing (g.A.Shapes.numbered c.args.here.now) (g.A.Around.around c.args.here.now) w c.args.at c.args.parts.now c.args.progress.now (refusal (g.A.Around.around c.args.here.now) cause.OutsideProfile c.args.at) differs refl)

pub returns-in_err-mutex : goal.returns-in_err-mutex
returns-in_err-mutex g c = λ w.
    let p = err_from_is_err_and c.from_residual.result c.from_residual.ensures.1 in
    rw (p.1, p.2) (releases_none (g.A.Shapes.numbered c.args.here.now) (g.A.Around.around c.args.here.now) w c.args.at c.object-item.result c.args.parts.now c.args.progress.now c.in_err-mutex.field-0.0 (one_part c.args.parts.now c.object-item.result c.in-len1.len_at_least c.in-len1.len_below c.object-item.is) c.in_err-mutex.ensures)

pub returns-in_err-released : goal.returns-in_err-released
returns-in_err-released g c = λ w.
    let p = err_from_is_err_and c.from_residual-in_err-released.result c.from_residual-in_err-released.ensures.1 in
    rw (p.1, p.2) (releases_stops (g.A.Shapes.numbered c.args.here.now) (g.A.Around.around c.args.here.now) w c.args.at c.object-item.result c.args.parts.now c.in_ok-mutex.mutex c.args.progress.now c.released.new.progress c.in_err-released.field-0.0 (one_part c.args.parts.now c.object-item.result c.in-len1.len_at_least c.in-len1.len_below c.object-item.is) c.in_ok-mutex.ensures c.in_err-released.ensures)

pub returns : goal.returns
returns g c = λ w. releases_it (g.A.Shapes.numbered c.args.here.now) (g.A.Around.around c.args.here.now) w c.args.at c.object-item.result c.args.parts.now c.in_ok-mutex.mutex c.args.progress.now c.released.new.progress (one_part c.args.parts.now c.object-item.result c.in-len1.len_at_least c.in-len1.len_below c.object-item.is) c.in_ok-mutex.ensures c.in_ok-released.ensures
