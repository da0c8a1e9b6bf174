use Rattle.std.proofs.Common.{◌≡◌, ◌<◌, ◌^◌, ◌-◌, Ok, refl, ap, ◌∙◌, arith}
use Rattle.std.proofs.lemmas.Result.{err_from_is_err_and}
use Rattle.aml_regions.specs.Fields.{bits_of, end}
use Rattle.aml_meaning.specs.Fields.{cost_from}
use Rattle.aml_fields.proofs.Places.{first_before, first_end}
use Rattle.aml_fields.proofs.Writing.{turn, mixed_lt, mixed_same, plan_cost, plan_write, write_more, write_stops, write_ends, write_all}
use Rattle.aml_fields.proofs.write.write_units.Goals as goal

pub loop-unit-init : goal.loop-unit-init
loop-unit-init g c =
    let f = c.layout-layout.result in
    let plan = g.U.Units.plan c.args.units.now in
    let e = c.layout-layout.ensures.is in
    let low = c.first_of-unit.ensures in
    record {
      wide = c.from-width.ensures ∙ c.bits.ensures;
      low = omega arith;
      last = c.end_of-unit-end.ensures;
      done = first_before f _ low;
      steps = plan_cost plan f _ _ e low;
      kept = refl;
      written = λ frame names r last h. plan_write plan f _ _ r _ _ e low h;
    }

pub returns-in_err-other-clause-means : goal.returns-in_err-other-clause-means
returns-in_err-other-clause-means g c = λ frame names.
    let f = c.layout-layout.result in
    let plan = g.U.Units.plan c.args.units.now in
    let e = c.layout-layout.ensures.is in
    let i = c.loop-unit.invariant in
    let t = turn f plan.read_events plan.write_events c.from-width.result c.loop-unit.unit c.loop-unit.done c.min-take.result c.layout-layout.ensures.laid_out i.wide i.low (omega arith) i.done c.min-take.ensures in
    let q = err_from_is_err_and c.from_residual.result c.from_residual.ensures.1 in
    rw q.1 (i.written frame names _ _ (write_stops f plan.read plan.write (g.B.Bits.bit c.args.value.now) _ _ _ _ _ _ _ t _ _ _ (rw (← e) at (c.in_err-other.ensures.means frame names))))

pub returns-in_err-other-clause-takes : goal.returns-in_err-other-clause-takes
returns-in_err-other-clause-takes g c =
    let f = c.layout-layout.result in
    let plan = g.U.Units.plan c.args.units.now in
    let e = c.layout-layout.ensures.is in
    let i = c.loop-unit.invariant in
    let t = turn f plan.read_events plan.write_events c.from-width.result c.loop-unit.unit c.loop-unit.done c.min-take.result c.layout-layout.ensures.laid_out i.wide i.low (omega arith) i.done c.min-take.ensures in
    let q = err_from_is_err_and c.from_residual.result c.from_residual.ensures.1 in
    let takes = rw (← e) at c.in_err-other.ensures.takes in
    rw q.1 (omega (arith, takes, t.cost, i.steps))

pub returns-in_default-clause-means : goal.returns-in_default-clause-means
returns-in_default-clause-means g c = λ frame names.
    let f = c.layout-layout.result in
    let plan = g.U.Units.plan c.args.units.now in
    let e = c.layout-layout.ensures.is in
    let i = c.loop-unit.invariant in
    let t = turn f plan.read_events plan.write_events c.from-width.result c.loop-unit.unit c.loop-unit.done c.min-take.result c.layout-layout.ensures.laid_out i.wide i.low (omega arith) i.done c.min-take.ensures in
    i.written frame names _ _ (write_stops f plan.read plan.write (g.B.Bits.bit c.args.value.now) _ _ _ _ _ _ _ t _ _ _ (rw (c.in_default.is, ← e) at (c.in_ok-other.ensures.means frame names)))

pub returns-in_default-clause-takes : goal.returns-in_default-clause-takes
returns-in_default-clause-takes g c =
    let f = c.layout-layout.result in
    let plan = g.U.Units.plan c.args.units.now in
    let e = c.layout-layout.ensures.is in
    let i = c.loop-unit.invariant in
    let t = turn f plan.read_events plan.write_events c.from-width.result c.loop-unit.unit c.loop-unit.done c.min-take.result c.layout-layout.ensures.laid_out i.wide i.low (omega arith) i.done c.min-take.ensures in
    let none = rw c.in_default.is at c.in_ok-other.ensures.none in
    let takes = rw (← e) at c.in_ok-other.ensures.takes in
    omega (arith, none, takes, t.cost, i.steps)

pub write_unit-requires-clause-fits : goal.write_unit-requires-clause-fits
write_unit-requires-clause-fits g c =
    let f = c.layout-layout.result in
    let plan = g.U.Units.plan c.args.units.now in
    let e = c.layout-layout.ensures.is in
    let i = c.loop-unit.invariant in
    let t = turn f plan.read_events plan.write_events c.from-width.result c.loop-unit.unit c.loop-unit.done c.min-take.result c.layout-layout.ensures.laid_out i.wide i.low (omega arith) i.done c.min-take.ensures in
    let bit = g.B.Bits.bit c.args.value.now in
    let small : c.in-Some.other < 2 ^ bits_of f.width = rw e (rw c.in-Some.is at c.in_ok-other.ensures.fits) in
    rw (← e) (rw (mixed_same f bit _ _ _ _ c.in-Some.other _ _ t.places small c.part-part.ensures.is c.replaced-mixed.ensures) (mixed_lt f bit c.loop-unit.unit c.in-Some.other (g.met.B.Bits.binary c.args.value.now)))

pub returns-in_err-write_unit-clause-means : goal.returns-in_err-write_unit-clause-means
returns-in_err-write_unit-clause-means g c = λ frame names.
    let f = c.layout-layout.result in
    let plan = g.U.Units.plan c.args.units.now in
    let e = c.layout-layout.ensures.is in
    let i = c.loop-unit.invariant in
    let t = turn f plan.read_events plan.write_events c.from-width.result c.loop-unit.unit c.loop-unit.done c.min-take.result c.layout-layout.ensures.laid_out i.wide i.low (omega arith) i.done c.min-take.ensures in
    let bit = g.B.Bits.bit c.args.value.now in
    let small : c.in-Some.other < 2 ^ bits_of f.width = rw e (rw c.in-Some.is at c.in_ok-other.ensures.fits) in
    let same = mixed_same f bit _ _ _ _ c.in-Some.other _ _ t.places small c.part-part.ensures.is c.replaced-mixed.ensures in
    let q = err_from_is_err_and c.from_residual-in_err-write_unit.result c.from_residual-in_err-write_unit.ensures.1 in
    rw q.1 (i.written frame names _ _ (write_ends f plan.read plan.write bit _ _ _ _ _ _ _ t c.in-Some.other c.replaced-mixed.result _ _ (rw (c.in-Some.is, ← e) at (c.in_ok-other.ensures.means frame names)) same _ _ (c.in_err-write_unit.ensures.means frame names)))

pub returns-in_err-write_unit-clause-takes : goal.returns-in_err-write_unit-clause-takes
returns-in_err-write_unit-clause-takes g c =
    let f = c.layout-layout.result in
    let plan = g.U.Units.plan c.args.units.now in
    let e = c.layout-layout.ensures.is in
    let i = c.loop-unit.invariant in
    let t = turn f plan.read_events plan.write_events c.from-width.result c.loop-unit.unit c.loop-unit.done c.min-take.result c.layout-layout.ensures.laid_out i.wide i.low (omega arith) i.done c.min-take.ensures in
    let q = err_from_is_err_and c.from_residual-in_err-write_unit.result c.from_residual-in_err-write_unit.ensures.1 in
    let takes = rw (← e) at c.in_ok-other.ensures.takes in
    rw q.1 (omega (arith, takes, c.in_err-write_unit.ensures.takes, t.cost, i.steps))

pub returns-then-not-branch-clause-means : goal.returns-then-not-branch-clause-means
returns-then-not-branch-clause-means g c = λ frame names.
    let f = c.layout-layout.result in
    let plan = g.U.Units.plan c.args.units.now in
    let e = c.layout-layout.ensures.is in
    let i = c.loop-unit.invariant in
    let t = turn f plan.read_events plan.write_events c.from-width.result c.loop-unit.unit c.loop-unit.done c.min-take.result c.layout-layout.ensures.laid_out i.wide i.low (omega arith) i.done c.min-take.ensures in
    let bit = g.B.Bits.bit c.args.value.now in
    let small : c.in-Some.other < 2 ^ bits_of f.width = rw e (rw c.in-Some.is at c.in_ok-other.ensures.fits) in
    let same = mixed_same f bit _ _ _ _ c.in-Some.other _ _ t.places small c.part-part.ensures.is c.replaced-mixed.ensures in
    i.written frame names _ _ (write_ends f plan.read plan.write bit _ _ _ _ _ _ _ t c.in-Some.other c.replaced-mixed.result _ _ (rw (c.in-Some.is, ← e) at (c.in_ok-other.ensures.means frame names)) same _ _
    (rw c.if-not-branch.true at (c.in_ok-write_unit.ensures.means frame names)))

pub returns-then-not-branch-clause-takes : goal.returns-then-not-branch-clause-takes
returns-then-not-branch-clause-takes g c =
    let f = c.layout-layout.result in
    let plan = g.U.Units.plan c.args.units.now in
    let e = c.layout-layout.ensures.is in
    let i = c.loop-unit.invariant in
    let t = turn f plan.read_events plan.write_events c.from-width.result c.loop-unit.unit c.loop-unit.done c.min-take.result c.layout-layout.ensures.laid_out i.wide i.low (omega arith) i.done c.min-take.ensures in
    let none = c.in_ok-write_unit.ensures.none (ap Ok c.if-not-branch.true) in
    let takes = rw (← e) at c.in_ok-other.ensures.takes in
    omega (arith, none, takes, c.in_ok-write_unit.ensures.takes, t.cost, i.steps)

pub loop-unit-preserved : goal.loop-unit-preserved
loop-unit-preserved g c =
    let f = c.layout-layout.result in
    let plan = g.U.Units.plan c.args.units.now in
    let e = c.layout-layout.ensures.is in
    let i = c.loop-unit.invariant in
    let t = turn f plan.read_events plan.write_events c.from-width.result c.loop-unit.unit c.loop-unit.done c.min-take.result c.layout-layout.ensures.laid_out i.wide i.low (omega arith) i.done c.min-take.ensures in
    let bit = g.B.Bits.bit c.args.value.now in
    let small : c.in-Some.other < 2 ^ bits_of f.width = rw e (rw c.in-Some.is at c.in_ok-other.ensures.fits) in
    let same = mixed_same f bit _ _ _ _ c.in-Some.other _ _ t.places small c.part-part.ensures.is c.replaced-mixed.ensures in
    let takes = rw (← e) at c.in_ok-other.ensures.takes in
    record {
      wide = i.wide;
      low = omega arith;
      last = i.last;
      done = t.places.next;
      steps = omega (arith, takes, c.in_ok-write_unit.ensures.takes, t.cost, i.steps);
      kept = c.in_ok-write_unit.ensures.refusal ∙ (c.in_ok-other.ensures.refusal ∙ i.kept);
      written = λ frame names r last rest. i.written frame names r last (write_more f plan.read plan.write bit _ _ _ _ _ _ _ t c.in-Some.other c.replaced-mixed.result _ _ (rw (c.in-Some.is, ← e) at (c.in_ok-other.ensures.means frame names)) same _ r last
          (rw c.if-not-branch.false at (c.in_ok-write_unit.ensures.means frame names)) rest);
    }

pub returns-clause-means : goal.returns-clause-means
returns-clause-means g c = λ frame names.
    let f = c.layout-layout.result in
    let plan = g.U.Units.plan c.args.units.now in
    let i = c.loop-unit.invariant in
    let some = first_end f c.layout-layout.ensures.laid_out in
    i.written frame names _ _ (write_all f plan.read plan.write (g.B.Bits.bit c.args.value.now) c.loop-unit.unit _ _ (omega arith))

pub returns-clause-takes : goal.returns-clause-takes
returns-clause-takes g c =
    let f = c.layout-layout.result in
    let plan = g.U.Units.plan c.args.units.now in
    let i = c.loop-unit.invariant in
    let some = first_end f c.layout-layout.ensures.laid_out in
    let over : end f - c.loop-unit.unit ≡ 0 = omega arith in
    let none : cost_from f plan.read_events plan.write_events (end f - c.loop-unit.unit) c.loop-unit.unit ≡ 0 = ap (λ n. cost_from f plan.read_events plan.write_events n c.loop-unit.unit) over in
    omega (arith, none, i.steps)
