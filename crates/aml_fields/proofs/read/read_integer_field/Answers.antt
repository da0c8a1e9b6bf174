use Rattle.std.proofs.Common.{refl}
use Rattle.aml_meaning.specs.Fields.{plan_of, plan_reads, read_count, read_integer, told}
use Rattle.aml_fields.proofs.Plans.{plan_layout, steps_left}
use Rattle.aml_fields.proofs.read.read_integer_field.Goals as goal

pub read_integer-requires-clause-short : goal.read_integer-requires-clause-short
read_integer-requires-clause-short g c = rw (plan_layout c.args.field.now) c.requires.short

pub returns-clause-means : goal.returns-clause-means
unfolding read_integer read_count
returns-clause-means g c = λ frame names.
    steps_left told (λ e. refl) c.read_integer.result _ frame names (plan_reads (plan_of c.args.field.now)) c.args.limit _ _ _ c.read_integer.ensures.takes (c.read_integer.ensures.means frame names)
