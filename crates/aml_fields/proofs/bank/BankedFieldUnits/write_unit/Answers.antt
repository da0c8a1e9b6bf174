use Rattle.std.proofs.lemmas.Result.{err_from_is_err_and}
use Rattle.aml_meaning.specs.Fields.{banked_plan, plan_writes, region_plan}
use Rattle.aml_meaning.proofs.Runs.{runs_then, runs_stop}
use Rattle.aml_fields.proofs.Plans.{takes_then}
use Rattle.aml_fields.proofs.bank.BankedFieldUnits.write_unit.Goals as goal

pub returns-in_err-write_units-clause-means : goal.returns-in_err-write_units-clause-means
unfolding banked_plan
returns-in_err-write_units-clause-means g c = λ frame names.
    let q = err_from_is_err_and c.from_residual.result c.from_residual.ensures.1 in
    rw q.1 (runs_stop _ (c.in_err-write_units.ensures.means frame names))

pub returns-then-not-branch-clause-means : goal.returns-then-not-branch-clause-means
unfolding banked_plan
returns-then-not-branch-clause-means g c = λ frame names.
    runs_stop _ (rw c.if-not-branch.true at (c.in_ok-write_units.ensures.means frame names))

pub write_unit-requires-clause-unit : goal.write_unit-requires-clause-unit
unfolding banked_plan region_plan
write_unit-requires-clause-unit g c = c.requires.unit

pub write_unit-requires-clause-fits : goal.write_unit-requires-clause-fits
unfolding banked_plan region_plan
write_unit-requires-clause-fits g c = c.requires.fits

pub returns-clause-means : goal.returns-clause-means
unfolding banked_plan region_plan
returns-clause-means g c = λ frame names.
    runs_then _ (rw c.if-not-branch.false at (c.in_ok-write_units.ensures.means frame names)) (c.write_unit.ensures.means frame names)

pub returns-clause-takes : goal.returns-clause-takes
unfolding banked_plan region_plan
returns-clause-takes g c = takes_then c.write_unit.result (plan_writes (region_plan c.args.self.now.bank)) 1 _ _ _ c.in_ok-write_units.ensures.takes c.write_unit.ensures.takes
