use Rattle.std.proofs.lemmas.Result.{err_from_is_err_and}
use Rattle.aml_machine.specs.Views.{frame_of, names_of}
use Rattle.aml_acts.proofs.field.write_bits.Goals as goal

pub returns-in_err-write_field-clause-means : goal.returns-in_err-write_field-clause-means
returns-in_err-write_field-clause-means g c =
    let p = err_from_is_err_and c.from_residual.result c.from_residual.ensures.1 in
    rw (p.1, p.2, c.saturating_sub-machine.ensures, c.write_count.ensures) (c.in_err-write_field.ensures.means (frame_of c.args.machine.now.frame) (names_of c.args.machine.now.names))

pub returns-then-branch-clause-means : goal.returns-then-branch-clause-means
returns-then-branch-clause-means g c =
    rw (c.saturating_sub-machine.ensures, c.write_count.ensures) (rw c.if-branch.true at (c.in_ok-write_field.ensures.means (frame_of c.args.machine.now.frame) (names_of c.args.machine.now.names)))

pub returns-else-branch-clause-means : goal.returns-else-branch-clause-means
returns-else-branch-clause-means g c =
    rw (c.saturating_sub-machine.ensures, c.write_count.ensures) (rw c.if-branch.false at (c.in_ok-write_field.ensures.means (frame_of c.args.machine.now.frame) (names_of c.args.machine.now.names)))
