use Rattle.std.proofs.Common.{◌≡◌, length, refl, arith}
use Rattle.std.proofs.lemmas.Result.{err_from_is_err_and}
use Rattle.aml_causes.specs.declared.cause.Cause.TheVariants as cause
use Rattle.aml_judged.specs.Judge.{refusal}
use Rattle.aml_judging.proofs.Leaving.{not_sized, sized_judges, sized_stops}
use Rattle.aml_judging.proofs.OnlyParts.{one_part}
use Rattle.aml_judging.proofs.leaves.sized.Goals.{in_default-via-then-parts-lt1, in_default-via-else-parts-lt1+else-parts-lt2}
use Rattle.aml_judging.proofs.leaves.sized.Goals as goal

pub returns-in_default : goal.returns-in_default
returns-in_default g c = λ w.
    let differs : length c.args.parts.now ≡ 1 → ⊥ = λ same. elim c.in_default.branch [
      | in_default-via-then-parts-lt1 w ↦ grind (arith, same, w)
      | in_default-via-else-parts-lt1+else-parts-lt2 w ↦ grind (arith, same, w)
    ] in
    rw c.stop.ensures (not_sized (g.A.Shapes.numbered c.args.here.now) (g.A.Around.around c.args.here.now) w c.args.at c.args.parts.now c.args.progress.now (refusal (g.A.Around.around c.args.here.now) cause.OutsideProfile c.args.at) differs refl)

pub returns-in_err-kind : goal.returns-in_err-kind
returns-in_err-kind g c = λ w.
    let p = err_from_is_err_and c.from_residual.result c.from_residual.ensures.1 in
    rw (p.1, p.2) (sized_stops (g.A.Shapes.numbered c.args.here.now) (g.A.Around.around c.args.here.now) w c.args.at c.of-item.result c.args.parts.now c.args.progress.now c.in_err-kind.field-0.0 (one_part c.args.parts.now c.of-item.result c.in-len1.len_at_least c.in-len1.len_below c.of-item.is) c.in_err-kind.ensures)

pub returns : goal.returns
returns g c = λ w. sized_judges (g.A.Shapes.numbered c.args.here.now) (g.A.Around.around c.args.here.now) w c.args.at c.of-item.result c.args.parts.now c.args.progress.now c.in_ok-kind.kind (one_part c.args.parts.now c.of-item.result c.in-len1.len_at_least c.in-len1.len_below c.of-item.is) c.in_ok-kind.ensures
