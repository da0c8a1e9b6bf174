use Rattle.std.proofs.Common.{◌≡◌, ◌+◌, ◌-◌, ◌*◌, ◌%◌, min, refl, sym, arith}
use Rattle.aml_regions.specs.BufferFields.{in_bytes}
use Rattle.aml_fields.proofs.Places.{places, touched}
use Rattle.aml_fields.proofs.Shifted.{untouched_behind, untouched_below}
use Rattle.aml_fields.proofs.Writing.{mixed_outside, mixed_same}
use Rattle.aml_fields.proofs.buffer_field.byte_within.Goals.{then-unit-at-via-then-unit-at, then-unit-at-via-else-unit-at+then-at-bits}
use Rattle.aml_fields.proofs.buffer_field.byte_within.Goals as goal

pub returns-then-unit-at : goal.returns-then-unit-at
returns-then-unit-at g c =
    let at = c.args.at in
    let n = c.args.bits in
    let u = c.args.unit in
    let bit = g.B.Bits.bit c.args.value.now in
    elim c.then-unit-at.branch [
      | then-unit-at-via-then-unit-at w ↦ sym (mixed_outside (in_bytes at n) bit u c.args.byte c.ranges.byte.fits (λ j low. untouched_below at n u j (omega (arith, w.if-unit-at.true)) low))
      | then-unit-at-via-else-unit-at+then-at-bits w ↦ sym (mixed_outside (in_bytes at n) bit u c.args.byte c.ranges.byte.fits (λ j low. untouched_behind at n u j c.requires.some (omega (arith, w.if-at-bits.true))))
    ]

pub returns : goal.returns
returns g c =
    let at = c.args.at in
    let n = c.args.bits in
    let u = c.args.unit in
    let bit = g.B.Bits.bit c.args.value.now in
    let done = c.saturating_sub-done.result in
    let t = touched 8 at n u (omega arith) c.requires.some (omega (arith, c.if-unit-at.false)) (omega (arith, c.if-at-bits.false)) in
    let is : done ≡ min n (u * 8 - at) = omega (arith, t.high, c.saturating_sub-done.ensures) in
    let p = places 8 at n u done ((at + done) % 8) c.min-take.result t is refl c.min-take.ensures in
    mixed_same (in_bytes at n) bit u done _ c.min-take.result c.args.byte c.part-part.result _ p c.byte_replaced.ensures.byte c.part-part.ensures.is c.byte_replaced.ensures.is
