use Rattle.std.proofs.Common.{refl}
use Rattle.aml_meaning.specs.Fields.{plan_of, plan_writes, went, write_bits, write_count}
use Rattle.aml_fields.proofs.Plans.{steps_left}
use Rattle.aml_fields.proofs.write.write_field.Goals as goal

pub returns-clause-means : goal.returns-clause-means
unfolding write_bits write_count
returns-clause-means g c = λ frame names.
    steps_left went (λ e. refl) c.write_units.result _ frame names (plan_writes (plan_of c.args.field.now)) c.args.limit _ _ _ c.write_units.ensures.takes (c.write_units.ensures.means frame names)
