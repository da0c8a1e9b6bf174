use Rattle.std.proofs.Common.{◌<◌, ◌≤◌, ◌≢◌, ◌+◌, ◌/◌, ◌%◌, length, get_or, get_or-set_other, get_or-set_same, refl, sym, ap, ◌∙◌, arith, below_more, ⊎_elim}
use Rattle.std.proofs.lemmas.Bool.{cases_lt}
use Rattle.std.proofs.lemmas.List.FromFn.{fill_by_all}
use Rattle.aml_regions.specs.Fields.{mixed}
use Rattle.aml_regions.specs.BufferFields.{in_bytes, stored}
use Rattle.aml_fields.proofs.Places.{places, touched}
use Rattle.aml_fields.proofs.Shifted.{untouched_behind, untouched_below}
use Rattle.aml_fields.proofs.Writing.{mixed_outside, mixed_same}
use Rattle.aml_fields.proofs.buffer.write_buffer_field.Goals as goal

pub loop-unit-preserved : goal.loop-unit-preserved
loop-unit-preserved g c =
    let at = c.args.at in
    let n = c.args.bits in
    let u = c.loop-unit.unit in
    let i = c.loop-unit.invariant in
    let bit = g.B.Bits.bit c.args.value.now in
    let t = touched 8 at n u (omega arith) c.requires.some i.low c.loop-unit-test.true in
    let p = places 8 at n u c.loop-unit.done ((at + c.loop-unit.done) % 8) c.min-take.result t i.done refl c.min-take.ensures in
    let same = mixed_same (in_bytes at n) bit u c.loop-unit.done _ c.min-take.result (get_or c.loop-unit.buffer u 0) c.part-part.result _ p c.byte_replaced.ensures.byte c.part-part.ensures.is c.byte_replaced.ensures.is in
    let inside : u < length c.loop-unit.buffer = omega arith in
    record {
      low = omega arith;
      done = p.next;
      below = below_more _ _
          (λ j lt low. let ne : j ≢ u = omega arith in rw get_or-set_other (i.below j lt low))
          (λ low. rw get_or-set_same (same ∙ ap (mixed (in_bytes at n) bit u) (i.behind u (omega arith))));
      before = λ j lt. let ne : j ≢ u = omega arith in rw get_or-set_other (i.before j lt);
      behind = λ j le. let ne : j ≢ u = omega arith in rw get_or-set_other (i.behind j (omega arith));
    }

pub returns : goal.returns
unfolding stored
returns g c =
    let at = c.args.at in
    let n = c.args.bits in
    let i = c.loop-unit.invariant in
    let bit = g.B.Bits.bit c.args.value.now in
    let old = c.args.buffer.now in
    fill_by_all _ c.loop-unit.buffer (length old) 0 (omega arith) (λ k lt. ⊎_elim
    (λ (low : k < at / 8). i.before k low ∙ sym (mixed_outside (in_bytes at n) bit k (get_or old k 0) (c.are_bytes.ensures k) (λ j l. untouched_below at n k j low l)))
    (λ (high : at / 8 ≤ k). ⊎_elim
    (λ (touched_ : k < c.loop-unit.unit). i.below k touched_ high)
    (λ (behind : c.loop-unit.unit ≤ k). i.behind k behind ∙ sym (mixed_outside (in_bytes at n) bit k (get_or old k 0) (c.are_bytes.ensures k) (λ j l. untouched_behind at n k j c.requires.some (omega arith))))
    (cases_lt k c.loop-unit.unit))
    (cases_lt k (at / 8)))
