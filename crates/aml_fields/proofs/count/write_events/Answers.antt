use Rattle.std.proofs.Common.{◌≡◌, ℕ, ◌+◌, ◌-◌, ◌^◌, sym, arith}
use Rattle.std.proofs.Math.Nat.{add-mul}
use Rattle.std.proofs.lemmas.Nat.{mul-le}
use Rattle.aml_regions.specs.declared.field.FieldLayout.{FieldLayout}
use Rattle.aml_regions.specs.Fields.{count, end, first}
use Rattle.aml_meaning.specs.Fields.{all_units_cost, cost_from}
use Rattle.aml_fields.proofs.Places.{count_most, first_end}
use Rattle.aml_fields.proofs.Writing.{cost_more, others_least}
use Rattle.aml_fields.proofs.count.write_events.Goals as goal

first_cost : (f : FieldLayout) (r w u : ℕ) → u ≡ first f → 0 + cost_from f r w (end f - u) u ≡ all_units_cost f r w
unfolding count
first_cost f r w u e = rw e (omega arith)

pub loop-unit-init : goal.loop-unit-init
loop-unit-init c = record {
  low = omega (arith, c.first_of-unit.ensures);
  last = c.end_of-unit-end.ensures;
  most = omega arith;
  cost = first_cost c.args.layout.now c.args.one.read c.args.one.write c.first_of-unit.result c.first_of-unit.ensures;
}

pub overflow_add-events-in-loop-unit : goal.overflow_add-events-in-loop-unit
overflow_add-events-in-loop-unit c =
    let f = c.args.layout.now in
    let i = c.loop-unit.invariant in
    let few = count_most f c.requires.laid_out in
    let product = mul-le (c.loop-unit.unit - first f) (c.args.one.read + c.args.one.write) 2048 (2 ^ 14) (omega (arith, few, c.requires.laid_out.most, i.last, i.low)) c.requires.few in
    let one = others_least c.is_covered-whole.result f.others c.args.one.read in
    record { fits = omega (arith, product, one, i.most, c.others_events.ensures, c.requires.few) }

pub loop-unit-preserved : goal.loop-unit-preserved
loop-unit-preserved c =
    let f = c.args.layout.now in
    let i = c.loop-unit.invariant in
    let u = c.loop-unit.unit in
    let r = c.args.one.read in
    let w = c.args.one.write in
    let one = others_least c.is_covered-whole.result f.others r in
    let more = cost_more f r w u (u + 1) (end f - (u + 1)) (end f - u) c.is_covered-whole.result (omega arith) (omega arith) (sym c.is_covered-whole.ensures) in
    let unit = add-mul (u - first f) 1 (r + w) in
    let next : u + 1 - first f ≡ u - first f + 1 = omega (arith, i.low) in
    record {
      low = omega arith;
      last = i.last;
      most = rw next (omega (arith, one, unit, i.most, c.others_events.ensures));
      cost = omega (arith, more, i.cost, c.others_events.ensures);
    }

pub returns-clause-few : goal.returns-clause-few
returns-clause-few c =
    let f = c.args.layout.now in
    let i = c.loop-unit.invariant in
    let some = first_end f c.requires.laid_out in
    let few = count_most f c.requires.laid_out in
    let product = mul-le (c.loop-unit.unit - first f) (c.args.one.read + c.args.one.write) 2048 (c.args.one.read + c.args.one.write) (omega (arith, few, c.requires.laid_out.most, i.last, i.low)) (omega arith) in
    omega (arith, product, i.most)
