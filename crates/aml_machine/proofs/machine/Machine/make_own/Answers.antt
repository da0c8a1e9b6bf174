use Rattle.std.proofs.lemmas.Result.{err_from_is_err_and}
use Rattle.aml_objects.specs.Widths.{bits_of}
use Rattle.aml_meaning.proofs.Owned.{runs_make_own}
use Rattle.aml_machine.specs.Views.{frame_of, names_of, value_of}
use Rattle.aml_machine.proofs.Firsts.{first_of_program, kind_of_program}
use Rattle.aml_machine.proofs.Made.{runs_unmade}
use Rattle.aml_machine.proofs.machine.Machine.make_own.Goals as goal

pub returns-in-Ok-clause-means : goal.returns-in-Ok-clause-means
returns-in-Ok-clause-means c = λ log.
    rw (c.in_ok-push.ensures.held, c.in_ok-push.ensures.kinds, ← first_of_program c.args.width c.args.held, ← kind_of_program c.args.width c.args.held, c.in-Ok.ensures.items)
    (runs_make_own (frame_of c.args.self.now.frame) (names_of c.args.self.now.names) c.args.self.now.steps log (bits_of c.args.width) (value_of c.args.held) c.args.field)

pub returns-in_err-push-clause-means : goal.returns-in_err-push-clause-means
returns-in_err-push-clause-means c = λ log.
    let p = err_from_is_err_and c.from_residual.result c.from_residual.ensures.1 in
    rw (p.1) (runs_unmade (frame_of c.args.self.now.frame) _ (names_of c.args.self.now.names) c.args.self.now.steps log (bits_of c.args.width) (value_of c.args.held) c.args.field)

pub returns-in-Err-clause-means : goal.returns-in-Err-clause-means
returns-in-Err-clause-means c = λ log.
    runs_unmade (frame_of c.args.self.now.frame) _ (names_of c.args.self.now.names) c.args.self.now.steps log (bits_of c.args.width) (value_of c.args.held) c.args.field
