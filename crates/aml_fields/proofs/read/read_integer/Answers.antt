use Rattle.std.proofs.Common.{Ok, ap}
use Rattle.std.proofs.lemmas.Result.{err_from_is_err_and}
use Rattle.aml_meaning.specs.Fields.{integer_read}
use Rattle.aml_fields.proofs.Numbers.{number-lt}
use Rattle.aml_fields.proofs.read.read_integer.Goals as goal

pub returns-in_err-read_units-clause-means : goal.returns-in_err-read_units-clause-means
unfolding integer_read
returns-in_err-read_units-clause-means g c = λ frame names.
    let q = err_from_is_err_and c.from_residual.result c.from_residual.ensures.1 in
    rw q.1 (c.in_err-read_units.ensures.means frame names)

pub returns-then-not-branch-clause-means : goal.returns-then-not-branch-clause-means
unfolding integer_read
returns-then-not-branch-clause-means g c = λ frame names. rw c.if-not-branch.true at c.in_ok-read_units.ensures.means frame names

pub returns-clause-means : goal.returns-clause-means
unfolding integer_read
returns-clause-means g c = λ frame names. rw c.if-not-branch.false at c.in_ok-read_units.ensures.means frame names

pub returns-clause-fits : goal.returns-clause-fits
returns-clause-fits g c =
    let has = c.in_ok-read_units.ensures.bits (ap Ok c.if-not-branch.false) in
    rw has.2 (number-lt (g.U.Units.plan c.args.units.now).layout.bits has.0 has.1)
