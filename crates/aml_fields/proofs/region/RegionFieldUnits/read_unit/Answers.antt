use Rattle.std.proofs.Common.{arith}
use Rattle.aml_regions.specs.Fields.{access}
use Rattle.aml_meaning.specs.Fields.{region_plan}
use Rattle.aml_fields.proofs.Events.{runs_read, runs_no_read}
use Rattle.aml_fields.proofs.Places.{is_unit}
use Rattle.aml_fields.proofs.region.RegionFieldUnits.read_unit.Goals as goal

pub returns-then-left-eq0-clause-means : goal.returns-then-left-eq0-clause-means
unfolding region_plan
returns-then-left-eq0-clause-means g c = λ frame names. runs_no_read frame names _ 0 _ _ _ c.if-left-eq0.true c.if-left-eq0.true

pub read-requires : goal.read-requires
unfolding region_plan
read-requires g c = rw c.access_of.ensures (is_unit c.args.self.now c.args.unit c.requires.ready c.requires.unit)

pub returns-clause-means : goal.returns-clause-means
unfolding region_plan
returns-clause-means g c = λ frame names.
    runs_read frame names (access c.args.self.now c.args.unit) c.in_ok-answer.answer _ _ _ _ (omega arith)
    (rw c.access_of.ensures at c.in_ok-answer.ensures.fits) c.in_ok-answer.ensures.refusal (rw c.access_of.ensures at c.in_ok-answer.ensures.event)

pub returns-clause-fits : goal.returns-clause-fits
unfolding access region_plan
returns-clause-fits g c = rw c.access_of.ensures at c.in_ok-answer.ensures.fits
