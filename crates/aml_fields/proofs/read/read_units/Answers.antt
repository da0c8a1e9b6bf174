use Rattle.std.proofs.Common.{◌≡◌, ◌-◌, ◌+◌, ◌%◌, [], ◌∷◌, ◌++◌, refl, ap, ◌∙◌, arith}
use Rattle.std.proofs.lemmas.List.{length-append}
use Rattle.std.proofs.lemmas.Nat.Bits.{bit_at-lt}
use Rattle.std.proofs.lemmas.Result.{err_from_is_err_and}
use Rattle.aml_regions.specs.Fields.{end, field_bit}
use Rattle.aml_fields.proofs.Numbers.{number-lt}
use Rattle.aml_fields.proofs.Places.{places_in, first_before, done_all, first_end}
use Rattle.aml_fields.proofs.Reading.{field_bit_lt, goes_on, read_more, read_stops, read_all, plan_bits, plan_reads_left, reads_more}
use Rattle.aml_fields.proofs.read.read_units.Goals as goal

pub loop-unit-init : goal.loop-unit-init
loop-unit-init g c =
    let f = c.layout-layout.result in
    let p = g.U.Units.plan c.args.units.now in
    let e = c.layout-layout.ensures.is in
    let low = c.first_of-unit.ensures in
    let made = g.G.Gathers.made (g.G.Gathers.size c.args.gathered.now) in
    record {
      wide = c.from-width.ensures ∙ c.bits.ensures;
      low = omega arith;
      last = c.end_of-unit-end.ensures;
      done = first_before f _ low;
      steps = plan_reads_left p f _ e low _;
      kept = refl;
      name = c.clear.ensures.same_reference;
      size = c.clear.ensures.size;
      read = ([], omega arith, c.clear.ensures.none (field_bit f []), λ frame names r last h. plan_bits p f _ e low made r _ _ h);
    }

pub returns-in_default-clause-means : goal.returns-in_default-clause-means
returns-in_default-clause-means g c = λ frame names.
    let f = c.layout-layout.result in
    let i = c.loop-unit.invariant in
    i.read.3 frame names _ _ (read_stops _ _ i.read.0 c.loop-unit.unit _ (end f - (c.loop-unit.unit + 1)) _ _ _ (omega arith) (rw c.in_default.is at c.in_ok-answer.ensures.means frame names))

pub returns-in_err-answer-clause-means : goal.returns-in_err-answer-clause-means
returns-in_err-answer-clause-means g c = λ frame names.
    let f = c.layout-layout.result in
    let p = err_from_is_err_and c.from_residual.result c.from_residual.ensures.1 in
    let i = c.loop-unit.invariant in
    rw p.1 (i.read.3 frame names _ _ (read_stops _ _ i.read.0 c.loop-unit.unit _ (end f - (c.loop-unit.unit + 1)) _ _ _ (omega arith) (c.in_err-answer.ensures.means frame names)))

pub put-requires-clause-some : goal.put-requires-clause-some
put-requires-clause-some g c =
    let i = c.loop-unit.invariant in
    let p = places_in c.layout-layout.result c.from-width.result c.loop-unit.unit c.loop-unit.done c.min-take.result c.layout-layout.ensures.laid_out i.wide i.low (omega arith) i.done c.min-take.ensures in
    p.some

pub put-requires-clause-part : goal.put-requires-clause-part
put-requires-clause-part g c = rw c.run-part.ensures (number-lt c.min-take.result _ (λ j. bit_at-lt _ _))

pub put-requires-clause-before : goal.put-requires-clause-before
put-requires-clause-before g c =
    let i = c.loop-unit.invariant in
    let f = c.layout-layout.result in
    (field_bit f i.read.0, field_bit_lt f i.read.0, rw i.size i.read.2)

pub loop-unit-preserved : goal.loop-unit-preserved
loop-unit-preserved g c =
    let f = c.layout-layout.result in
    let plan = g.U.Units.plan c.args.units.now in
    let made = g.G.Gathers.made (g.G.Gathers.size c.args.gathered.now) in
    let i = c.loop-unit.invariant in
    let x = c.in-Some.answer in
    let xs = i.read.0 in
    let p = places_in f c.from-width.result c.loop-unit.unit c.loop-unit.done c.min-take.result c.layout-layout.ensures.laid_out i.wide i.low (omega arith) i.done c.min-take.ensures in
    let more = reads_more (end f - c.loop-unit.unit) (end f - (c.loop-unit.unit + 1)) plan.read_events (omega arith) in
    let goes = goes_on f xs x c.loop-unit.unit c.loop-unit.done ((f.at + c.loop-unit.done) % c.from-width.result) c.min-take.result p i.read.1 c.run-part.result c.run-part.ensures in
    record {
      wide = i.wide;
      low = omega arith;
      last = i.last;
      done = p.next;
      steps = omega (arith, more, i.steps, c.in_ok-answer.ensures.takes);
      kept = c.in_ok-answer.ensures.refusal ∙ i.kept;
      name = c.put.ensures.same_reference ∙ i.name;
      size = c.put.ensures.size ∙ i.size;
      read = (
        xs ++ x ∷ [],
        omega (arith, length-append xs (x ∷ [])),
        rw i.size at c.put.ensures.more (field_bit f xs) (field_bit f (xs ++ x ∷ [])) goes i.read.2,
        λ frame names r last rest. i.read.3 frame names r last (read_more _ (λ ys. made f.bits (field_bit f ys)) xs x c.loop-unit.unit _ (end f - (c.loop-unit.unit + 1)) _ _ r last (omega arith) (rw c.in-Some.is at c.in_ok-answer.ensures.means frame names) rest),
      );
    }

pub returns-clause-means : goal.returns-clause-means
returns-clause-means g c = λ frame names.
    let f = c.layout-layout.result in
    let i = c.loop-unit.invariant in
    let made = g.G.Gathers.made (g.G.Gathers.size c.args.gathered.now) in
    let some = first_end f c.layout-layout.ensures.laid_out in
    let all = done_all f c.loop-unit.unit c.layout-layout.ensures.laid_out (omega arith) in
    let v : g.G.Gathers.value c.loop-unit.gathered ≡ made f.bits (field_bit f i.read.0) = i.read.2 ∙ ap (λ n. made n (field_bit f i.read.0)) (i.done ∙ all) in
    rw v (i.read.3 frame names _ _ (read_all _ (λ xs. made f.bits (field_bit f xs)) i.read.0 c.loop-unit.unit (end f - c.loop-unit.unit) _ (omega arith)))

pub returns-clause-bits : goal.returns-clause-bits
returns-clause-bits g c = λ _.
    let f = c.layout-layout.result in
    let i = c.loop-unit.invariant in
    let made = g.G.Gathers.made (g.G.Gathers.size c.args.gathered.now) in
    let some = first_end f c.layout-layout.ensures.laid_out in
    let all = done_all f c.loop-unit.unit c.layout-layout.ensures.laid_out (omega arith) in
    let bits = i.done ∙ all ∙ ap (λ l. l.bits) c.layout-layout.ensures.is in
    (field_bit f i.read.0, field_bit_lt f i.read.0, i.read.2 ∙ ap (λ n. made n (field_bit f i.read.0)) bits)
