use Rattle.std.proofs.Common.{refl}
use Rattle.aml_operators.specs.declared.row.Code.TheVariants as code
use Rattle.aml_operators.proofs.PartsOf.{part_count}
use Rattle.aml_plain.proofs.Forms.{condition_out}
use Rattle.aml_scene.specs.Letters.{name_and_target}
use Rattle.aml_plain.specs.Tells.{calls_of, setting_of}
use Rattle.aml_plain.proofs.operand.condition.Goals as goal

pub two-requires : goal.two-requires
two-requires c = part_count code.Body name_and_target c.args.parts.now refl c.requires.0

pub returns : goal.returns
returns c = λ around s.
    rw (c.two.ensures, condition_out (setting_of c.args.here around) c.args.at c.two.result.0.now c.two.result.1.now, ← c.action_of-what.ensures, ← c.action_of-behind.ensures) (c.asked.ensures (calls_of c.args.here around) s)
