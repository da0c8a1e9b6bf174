use Rattle.std.proofs.lemmas.Result.{err_from_is_err_and}
use Rattle.aml_machine.specs.Views.{frame_of, names_of}
use Rattle.aml_acts.proofs.field.read_value.Goals as goal

pub returns-in_err-value-clause-means : goal.returns-in_err-value-clause-means
returns-in_err-value-clause-means g c =
    let p = err_from_is_err_and c.from_residual.result c.from_residual.ensures.1 in
    rw (p.1, p.2, c.saturating_sub-machine.ensures, c.read_count.ensures) (c.in_err-value.ensures.means (frame_of c.args.machine.now.frame) (names_of c.args.machine.now.names))

pub returns-in-Some-clause-means : goal.returns-in-Some-clause-means
returns-in-Some-clause-means g c =
    rw (c.saturating_sub-machine.ensures, c.read_count.ensures) (rw c.in-Some.is at (c.in_ok-value.ensures.means (frame_of c.args.machine.now.frame) (names_of c.args.machine.now.names)))

pub returns-in-None-clause-means : goal.returns-in-None-clause-means
returns-in-None-clause-means g c =
    rw (c.saturating_sub-machine.ensures, c.read_count.ensures) (rw c.in-None.is at (c.in_ok-value.ensures.means (frame_of c.args.machine.now.frame) (names_of c.args.machine.now.names)))
