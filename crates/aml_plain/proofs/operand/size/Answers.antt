use Rattle.aml_plain.specs.Tells.{calls_of}
use Rattle.std.proofs.Common.{refl}
use Rattle.std.proofs.lemmas.Result.{err_from_is_err_and}
use Rattle.aml_operators.specs.declared.row.Code.TheVariants as code
use Rattle.aml_operators.proofs.PartsOf.{part_count}
use Rattle.aml_operators.proofs.Views.{view_out}
use Rattle.aml_meaning.proofs.Runs.{runs_give, runs_stop, runs_then}
use Rattle.aml_scene.specs.Letters.{one_name}
use Rattle.aml_plain.proofs.operand.size.Goals as goal

pub one-a-requires : goal.one-a-requires
one-a-requires c = part_count code.Body one_name c.args.parts.now refl c.requires.0

pub returns-in_err-size-clause-means : goal.returns-in_err-size-clause-means
returns-in_err-size-clause-means c = λ around log.
    let p = err_from_is_err_and c.from_residual.result c.from_residual.ensures.1 in
    rw (c.one-a.ensures, view_out, p.1, p.2, ← c.action_of.ensures) (runs_stop _ (c.in_err-size.ensures.means (calls_of c.args.here around) log))

pub returns-clause-means : goal.returns-clause-means
returns-clause-means c = λ around log.
    rw (c.one-a.ensures, view_out, ← c.action_of.ensures) (runs_then _ (c.in_ok-size.ensures.means (calls_of c.args.here around) log) (runs_give _ _))
