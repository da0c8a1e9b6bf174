use Rattle.std.proofs.lemmas.Result.{err_from_is_err_and}
use Rattle.aml_quick.specs.Settings.{calls_of}
use Rattle.aml_direct.proofs.index.write_numbered.Goals as goal

pub returns-in_err-write_byte-clause-means : goal.returns-in_err-write_byte-clause-means
returns-in_err-write_byte-clause-means c = λ around log.
    let p = err_from_is_err_and c.from_residual.result c.from_residual.ensures.1 in
    rw (p.1, p.2) (c.in_err-write_byte.ensures.means (calls_of c.args.here around) log)

pub returns-clause-means : goal.returns-clause-means
returns-clause-means c = λ around log. c.in_ok-write_byte.ensures.means (calls_of c.args.here around) log
