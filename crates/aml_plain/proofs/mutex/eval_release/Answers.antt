use Rattle.std.proofs.Common.{refl}
use Rattle.aml_operators.specs.declared.row.Code.TheVariants as code
use Rattle.aml_operators.proofs.PartsOf.{part_count}
use Rattle.aml_scene.specs.Letters.{one_name}
use Rattle.aml_plain.specs.Tells.{calls_of}
use Rattle.aml_plain.proofs.Forms.{at_out, op_out}
use Rattle.aml_plain.proofs.mutex.eval_release.Goals as goal

pub one-operand-requires : goal.one-operand-requires
one-operand-requires c = part_count code.Body one_name c.args.parts.now refl c.requires.0

pub returns-clause-means : goal.returns-clause-means
returns-clause-means c = λ around log.
    rw (c.one-operand.ensures, op_out c.one-operand.result.now, at_out c.one-operand.result.now, ← c.action_of.ensures) (c.released.ensures.means (calls_of c.args.here around) log)
