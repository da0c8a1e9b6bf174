use Rattle.std.proofs.Common.{◌≡◌, length, arith}
use Rattle.std.proofs.lemmas.Result.{err_from_is_err_and}
use Rattle.aml_meaning.proofs.Runs.{runs_give, runs_stop, runs_stop_with, runs_then}
use Rattle.aml_scene.specs.Tells.{setting_in}
use Rattle.aml_scene.proofs.Known.{one_given, other_given}
use Rattle.aml_scene.proofs.Ruled.{runs_rule}
use Rattle.aml_scene.proofs.interfaces.interface_asked.Goals.{in_default-via-then-given-lt1, in_default-via-else-given-lt1+else-given-lt2}
use Rattle.aml_scene.proofs.interfaces.interface_asked.Goals as goal

pub returns-in_err-said-in-len1 : goal.returns-in_err-said-in-len1
returns-in_err-said-in-len1 c = λ call s.
    let p = err_from_is_err_and c.from_residual.result c.from_residual.ensures.1 in
    let one = one_given c.args.given.now c.text-item.result c.in-len1.len_at_least c.in-len1.len_below c.text-item.is in
    rw (one, p.1, p.2) (runs_stop _ (runs_rule _ c.in_err-said-in-len1.ensures))

pub returns-in_ok-said-in-len1 : goal.returns-in_ok-said-in-len1
returns-in_ok-said-in-len1 c = λ call s.
    let one = one_given c.args.given.now c.text-item.result c.in-len1.len_at_least c.in-len1.len_below c.text-item.is in
    rw one (runs_then _ (runs_rule _ c.in_ok-said-in-len1.ensures) (runs_give _ _))

pub returns-in_default : goal.returns-in_default
returns-in_default c = λ call s.
    let others : length c.args.given.now ≡ 1 → ⊥ = λ one. elim c.in_default.branch [
      | in_default-via-then-given-lt1 w ↦ grind (arith, one, w)
      | in_default-via-else-given-lt1+else-given-lt2 w ↦ grind (arith, one, w)
    ] in
    rw (other_given (setting_in c.args.scene.now call) c.args.at _ c.args.given.now others, c.fails.ensures) (runs_stop_with _ _)
