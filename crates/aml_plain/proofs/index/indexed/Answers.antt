use Rattle.aml_plain.proofs.Written.{indexed_out, indexed_targeted}
use Rattle.aml_plain.specs.Tells.{calls_of, setting_of}
use Rattle.aml_plain.proofs.index.indexed.Goals as goal

pub returns-in-NoTarget-clause-means : goal.returns-in-NoTarget-clause-means
returns-in-NoTarget-clause-means c = λ around log.
    rw (c.in-NoTarget.is, indexed_out (setting_of c.args.here around) c.args.at c.args.source.now) (c.name_indexed.ensures.means around log)

pub returns-in_default-clause-means : goal.returns-in_default-clause-means
returns-in_default-clause-means c = λ around log.
    rw (indexed_targeted (setting_of c.args.here around) c.args.at c.args.target c.args.source.now c.in_default.not-NoTarget) (c.refused.ensures.means (calls_of c.args.here around) log)
