use Rattle.std.proofs.Common.{◌≡◌, length, refl, arith}
use Rattle.std.proofs.lemmas.Result.{err_from_is_err_and}
use Rattle.aml_causes.specs.declared.cause.Cause.TheVariants as cause
use Rattle.aml_judged.specs.Judge.{refusal}
use Rattle.aml_judging.proofs.Leaving.{acquires_judges, acquires_none, acquires_stops, not_acquired}
use Rattle.aml_judging.proofs.OnlyParts.{some_two}
use Rattle.aml_judging.proofs.leaves.acquires.Goals.{in_default-via-then-parts-lt2, in_default-via-else-parts-lt2+else-parts-lt3}
use Rattle.aml_judging.proofs.leaves.acquires.Goals as goal

pub returns-in_default : goal.returns-in_default
returns-in_default g c = λ w.
    let differs : length c.args.parts.now ≡ 2 → ⊥ = λ same. elim c.in_default.branch [
      | in_default-via-then-parts-lt2 w ↦ grind (arith, same, w)
      | in_default-via-else-parts-lt2+else-parts-lt3 w ↦ grind (arith, same, w)
    ] in
    rw c.stop.ensures (not_acquired (g.A.Shapes.numbered c.args.here.now) (g.A.Around.around c.args.here.now) w c.args.at c.args.parts.now c.args.progress.now (refusal (g.A.Around.around c.args.here.now) cause.OutsideProfile c.args.at) differs refl)

pub returns-in_err-mutex : goal.returns-in_err-mutex
returns-in_err-mutex g c = λ w.
    let p = err_from_is_err_and c.from_residual.result c.from_residual.ensures.1 in
    let two = some_two c.args.parts.now c.object-item.result c.in-len2.len_at_least c.in-len2.len_below c.object-item.is in
    rw (p.1, p.2) (acquires_none (g.A.Shapes.numbered c.args.here.now) (g.A.Around.around c.args.here.now) w c.args.at c.object-item.result two.0 c.args.parts.now c.args.progress.now c.in_err-mutex.field-0.0 two.1 c.in_err-mutex.ensures)

pub returns-in_err-taken : goal.returns-in_err-taken
returns-in_err-taken g c = λ w.
    let p = err_from_is_err_and c.from_residual-in_err-taken.result c.from_residual-in_err-taken.ensures.1 in
    let two = some_two c.args.parts.now c.object-item.result c.in-len2.len_at_least c.in-len2.len_below c.object-item.is in
    rw (p.1, p.2) (acquires_stops (g.A.Shapes.numbered c.args.here.now) (g.A.Around.around c.args.here.now) w c.args.at c.object-item.result two.0 c.args.parts.now c.in_ok-mutex.mutex c.args.progress.now c.taken.new.progress c.in_err-taken.field-0.0 two.1 c.in_ok-mutex.ensures c.in_err-taken.ensures)

pub returns : goal.returns
returns g c = λ w.
    let two = some_two c.args.parts.now c.object-item.result c.in-len2.len_at_least c.in-len2.len_below c.object-item.is in
    acquires_judges (g.A.Shapes.numbered c.args.here.now) (g.A.Around.around c.args.here.now) w c.args.at c.object-item.result two.0 c.args.parts.now c.in_ok-mutex.mutex c.args.progress.now c.taken.new.progress two.1 c.in_ok-mutex.ensures c.in_ok-taken.ensures
