use Rattle.std.proofs.Common.{refl}
use Rattle.aml_operators.specs.declared.row.Code.TheVariants as code
use Rattle.aml_operators.proofs.PartsOf.{part_count}
use Rattle.aml_scene.specs.Letters.{name_and_word}
use Rattle.aml_plain.specs.Tells.{calls_of}
use Rattle.aml_plain.proofs.Forms.{at_out, op_out}
use Rattle.aml_plain.proofs.mutex.eval_acquire.Goals as goal

pub two-requires : goal.two-requires
two-requires c = part_count code.Body name_and_word c.args.parts.now refl c.requires.0

pub returns-clause-means : goal.returns-clause-means
returns-clause-means c = λ around log.
    rw (c.two.ensures, op_out c.two.result.0.now, at_out c.two.result.0.now, ← c.action_of.ensures) (c.acquired.ensures.means (calls_of c.args.here around) log)
