use Rattle.std.proofs.lemmas.Result.{err_from_is_err_and}
use Rattle.aml_meaning.proofs.Runs.{runs_give, runs_stop, runs_stop_with, runs_then}
use Rattle.aml_scene.proofs.Ruled.{runs_rule}
use Rattle.aml_acts.proofs.Stored.{none_taken}
use Rattle.aml_scene.specs.Tells.{setting_in}
use Rattle.aml_acts.proofs.field.field_stored.Goals as goal

pub returns-in_err-take_step-clause-means : goal.returns-in_err-take_step-clause-means
returns-in_err-take_step-clause-means g c = λ call.
    let p = err_from_is_err_and c.from_residual.result c.from_residual.ensures.1 in
    rw (p.1, p.2) (runs_stop _ (c.in_err-take_step.ensures.means _))

pub returns-in_err-field-clause-means : goal.returns-in_err-field-clause-means
returns-in_err-field-clause-means g c = λ call.
    let p = err_from_is_err_and c.from_residual-in_err-field.result c.from_residual-in_err-field.ensures.1 in
    rw (p.1, p.2) (runs_then _ (c.in_ok-take_step.ensures.means _) (runs_stop _ (runs_rule _ c.in_err-field.ensures.is)))

pub returns-in-Int-clause-means : goal.returns-in-Int-clause-means
returns-in-Int-clause-means g c = λ call.
    rw c.in-Int.is (runs_then _ (c.in_ok-take_step.ensures.means _) (runs_then _ (runs_rule _ c.in_ok-field.ensures.is) (runs_then _ (runs_give _ _) c.write_bits.ensures.means)))

pub returns-in-Buf-clause-means : goal.returns-in-Buf-clause-means
returns-in-Buf-clause-means g c = λ call.
    rw c.in-Buf.is (runs_then _ (c.in_ok-take_step.ensures.means _) (runs_then _ (runs_rule _ c.in_ok-field.ensures.is) (rw c.as_slice.ensures at (c.write_buffer.ensures.means call))))

pub returns-in_default-clause-means : goal.returns-in_default-clause-means
returns-in_default-clause-means g c = λ call.
    runs_then _ (c.in_ok-take_step.ensures.means _) (runs_then _ (runs_rule _ c.in_ok-field.ensures.is) (rw (none_taken (setting_in c.args.scene.now call) c.args.at c.in_ok-field.field c.args.stored.now c.in_default.not-Int c.in_default.not-Buf, c.fails.ensures) (runs_stop _ (runs_stop_with _ _))))
