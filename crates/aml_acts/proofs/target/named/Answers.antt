use Rattle.std.proofs.lemmas.Result.{err_from_is_err_and}
use Rattle.aml_meaning.proofs.Runs.{runs_then, runs_stop, runs_give, runs_stop_with}
use Rattle.aml_acts.proofs.Elsewhere.{named_elsewhere}
use Rattle.aml_machine.specs.Views.{now}
use Rattle.aml_scene.proofs.Copied.{copied_name}
use Rattle.aml_scene.specs.Tells.{setting_in}
use Rattle.aml_acts.proofs.target.named.Goals as goal

pub returns-in_err-content-in-Data-clause-means : goal.returns-in_err-content-in-Data-clause-means
returns-in_err-content-in-Data-clause-means g c = λ call.
    let p = err_from_is_err_and c.from_residual.result c.from_residual.ensures.1 in
    rw (← c.in-Data.ensures, p.1, p.2) (runs_stop _ (copied_name _ _ _ (now c.args.machine.now (g.W.World.log c.args.world.now)) (c.in_err-content-in-Data.ensures (g.W.World.log c.args.world.now))))

pub returns-in_ok-content-in-Data-clause-means : goal.returns-in_ok-content-in-Data-clause-means
returns-in_ok-content-in-Data-clause-means g c = λ call.
    rw (← c.in-Data.ensures) (runs_then _ (copied_name _ _ _ (now c.args.machine.now (g.W.World.log c.args.world.now)) (c.in_ok-content-in-Data.ensures (g.W.World.log c.args.world.now))) (runs_give _ _))

pub returns-in-Own-clause-means : goal.returns-in-Own-clause-means
returns-in-Own-clause-means g c = λ call. rw (← c.in-Own.ensures) (c.own_held.ensures call (g.W.World.log c.args.world.now))

pub returns-in-Field-clause-means : goal.returns-in-Field-clause-means
returns-in-Field-clause-means g c = λ call. rw (← c.in-Field.ensures) (c.field_read.ensures.means call)

pub returns-in-BufferField-clause-means : goal.returns-in-BufferField-clause-means
returns-in-BufferField-clause-means g c = λ call. rw (← c.in-BufferField.ensures, ← c.named_buffer_field.ensures.is) (c.buffer_field_read.ensures call (g.W.World.log c.args.world.now))

pub returns-in_default-clause-means : goal.returns-in_default-clause-means
returns-in_default-clause-means g c = λ call.
    rw (← c.link_of.ensures, named_elsewhere (setting_in c.args.scene.now call) _ _ c.in_default.not-Data c.in_default.not-Own c.in_default.not-Field c.in_default.not-BufferField, ← c.unwritable.ensures, c.fails.ensures) (runs_stop_with _ _)
