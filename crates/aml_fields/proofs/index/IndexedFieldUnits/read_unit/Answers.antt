use Rattle.std.proofs.lemmas.Result.{err_from_is_err_and}
use Rattle.aml_meaning.specs.Fields.{indexed_plan, region_plan}
use Rattle.aml_meaning.proofs.Runs.{runs_then, runs_stop}
use Rattle.aml_fields.proofs.Places.{bits_most}
use Rattle.aml_fields.proofs.index.IndexedFieldUnits.read_unit.Goals as goal

pub returns-in_err-write_units-clause-means : goal.returns-in_err-write_units-clause-means
unfolding indexed_plan
returns-in_err-write_units-clause-means g c = λ frame names.
    let q = err_from_is_err_and c.from_residual.result c.from_residual.ensures.1 in
    rw q.1 (runs_stop _ (rw c.place_of-place.ensures at (c.in_err-write_units.ensures.means frame names)))

pub returns-then-not-branch-clause-means : goal.returns-then-not-branch-clause-means
unfolding indexed_plan
returns-then-not-branch-clause-means g c = λ frame names.
    runs_stop _ (rw (c.if-not-branch.true, c.place_of-place.ensures) at (c.in_ok-write_units.ensures.means frame names))

pub read_integer-requires-clause-short : goal.read_integer-requires-clause-short
unfolding region_plan
read_integer-requires-clause-short g c = rw c.requires.ready.wide (bits_most c.args.self.now.layout.width)

pub returns-clause-means : goal.returns-clause-means
unfolding indexed_plan
returns-clause-means g c = λ frame names.
    runs_then _ (rw (c.if-not-branch.false, c.place_of-place.ensures) at (c.in_ok-write_units.ensures.means frame names)) (c.read_integer.ensures.means frame names)

pub returns-clause-fits : goal.returns-clause-fits
unfolding indexed_plan region_plan
returns-clause-fits g c = rw c.requires.ready.wide at c.read_integer.ensures.fits
