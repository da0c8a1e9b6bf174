use Rattle.aml_plain.specs.Tells.{calls_of}
use Rattle.std.proofs.Common.{refl}
use Rattle.std.proofs.lemmas.Result.{err_from_is_err_and}
use Rattle.aml_operators.specs.declared.row.Code.TheVariants as code
use Rattle.aml_meaning.proofs.Runs.{runs_stop, runs_stop_with, runs_then}
use Rattle.aml_scene.specs.Letters.{sized_field}
use Rattle.aml_operators.proofs.PartsOf.{part_count}
use Rattle.aml_plain.proofs.Forms.{at_out}
use Rattle.aml_plain.proofs.define.sized_field.Goals as goal

pub three-requires : goal.three-requires
three-requires c = part_count code.Body sized_field c.args.parts.now refl c.requires.0

pub returns-in_err-take_step-clause-means : goal.returns-in_err-take_step-clause-means
returns-in_err-take_step-clause-means c = λ around log.
    let p = err_from_is_err_and c.from_residual.result c.from_residual.ensures.1 in
    rw (p.1, p.2) (runs_stop _ (c.in_err-take_step.ensures.means log))

pub returns-then-makes_own-clause-means : goal.returns-then-makes_own-clause-means
returns-then-makes_own-clause-means c = λ around log.
    rw (c.three.ensures, at_out c.three.result.2.now, ← c.makes_own.ensures (calls_of c.args.here around), c.if-makes_own.true)
    (runs_then _ (c.in_ok-take_step.ensures.means log) (rw (c.source_of-from.ensures, c.literal_of.ensures) at (c.make_field.ensures.means (calls_of c.args.here around) log)))

pub returns-else-makes_own-clause-means : goal.returns-else-makes_own-clause-means
returns-else-makes_own-clause-means c = λ around log.
    rw (c.three.ensures, at_out c.three.result.2.now, ← c.makes_own.ensures (calls_of c.args.here around), c.if-makes_own.false, c.fails.ensures) (runs_then _ (c.in_ok-take_step.ensures.means log) (runs_stop_with _ _))
