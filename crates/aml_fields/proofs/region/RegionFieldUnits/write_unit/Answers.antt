use Rattle.std.proofs.Common.{arith}
use Rattle.aml_regions.specs.Fields.{access}
use Rattle.aml_meaning.specs.Fields.{region_plan}
use Rattle.aml_fields.proofs.Events.{runs_write, runs_no_write}
use Rattle.aml_fields.proofs.Places.{is_unit}
use Rattle.aml_fields.proofs.region.RegionFieldUnits.write_unit.Goals as goal

pub returns-then-left-eq0-clause-means : goal.returns-then-left-eq0-clause-means
unfolding region_plan
returns-then-left-eq0-clause-means g c = λ frame names. runs_no_write frame names _ _ _ _ _ c.if-left-eq0.true c.if-left-eq0.true

pub write-requires-clause-unit : goal.write-requires-clause-unit
unfolding region_plan
write-requires-clause-unit g c = rw c.access_of.ensures (is_unit c.args.self.now c.args.unit c.requires.ready c.requires.unit)

pub write-requires-clause-fits : goal.write-requires-clause-fits
unfolding access region_plan
write-requires-clause-fits g c = rw c.access_of.ensures c.requires.fits

pub returns-clause-means : goal.returns-clause-means
unfolding region_plan
returns-clause-means g c = λ frame names.
    runs_write frame names (access c.args.self.now c.args.unit) c.args.value _ _ _ _ (omega arith) c.in_ok-write.ensures.refusal (rw c.access_of.ensures at c.in_ok-write.ensures.event)
