use Rattle.aml_meaning.proofs.Runs.{runs_give, runs_stop, runs_stop_with, runs_then}
use Rattle.aml_acts.proofs.Stored.{buffer_refused, buffer_taken}
use Rattle.aml_scene.specs.Tells.{setting_in}
use Rattle.aml_acts.proofs.field.write_buffer.Goals as goal

pub returns-then-not-takes_buffer-clause-means : goal.returns-then-not-takes_buffer-clause-means
returns-then-not-takes_buffer-clause-means g c = λ call.
    rw (buffer_refused (setting_in c.args.scene.now call) c.args.at c.args.field.now c.args.bytes.now (rw (← c.layout.ensures, ← c.takes_buffer.ensures) c.if-not-takes_buffer.true), c.fails.ensures) (runs_stop _ (runs_stop_with _ _))

pub returns-clause-means : goal.returns-clause-means
returns-clause-means g c = λ call.
    rw (buffer_taken (setting_in c.args.scene.now call) c.args.at c.args.field.now c.args.bytes.now (rw (← c.layout.ensures, ← c.takes_buffer.ensures) c.if-not-takes_buffer.false)) (runs_then _ (runs_give _ _) c.write_bits.ensures.means)
