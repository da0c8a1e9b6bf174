use Rattle.std.proofs.Common.{◌≡◌, length, refl, arith}
use Rattle.aml_causes.specs.declared.cause.Cause.TheVariants as cause
use Rattle.aml_judged.specs.Judge.{refusal}
use Rattle.aml_judging.proofs.Leaving.{asked_judges, not_asked}
use Rattle.aml_judging.proofs.OnlyParts.{two_parts}
use Rattle.aml_judging.proofs.leaves.asked.Goals.{in_default-via-then-parts-lt2, in_default-via-else-parts-lt2+else-parts-lt3}
use Rattle.aml_judging.proofs.leaves.asked.Goals as goal

pub returns-in_default : goal.returns-in_default
returns-in_default g c = λ w p.
    let differs : length c.args.parts.now ≡ 2 → ⊥ = λ same. elim c.in_default.branch [
      | in_default-via-then-parts-lt2 w ↦ grind (arith, same, w)
      | in_default-via-else-parts-lt2+else-parts-lt3 w ↦ grind (arith, same, w)
    ] in
    rw c.stop.ensures (not_asked (g.A.Shapes.numbered c.args.here.now) (g.A.Around.around c.args.here.now) w c.args.at c.args.parts.now p (refusal (g.A.Around.around c.args.here.now) cause.OutsideProfile c.args.at) differs refl)

pub returns : goal.returns
returns g c = λ w p. asked_judges (g.A.Shapes.numbered c.args.here.now) (g.A.Around.around c.args.here.now) w c.args.at c.what-item.result c.target-item.result c.args.parts.now p c.in_ok-given.given.kind (two_parts c.args.parts.now c.what-item.result c.target-item.result c.in-len2.len_at_least c.in-len2.len_below c.what-item.is c.target-item.is) c.in_ok-given.ensures
