use Rattle.std.proofs.Common.{◌≡◌, ◌+◌, ◌-◌, sym, ap, ◌∙◌, arith}
use Rattle.aml_regions.specs.BufferFields.{in_bytes}
use Rattle.aml_regions.specs.Fields.{mixed}
use Rattle.aml_meaning.specs.BufferFields.{first_bit}
use Rattle.aml_fields.proofs.Shifted.{mixed_shifted, untouched_below}
use Rattle.aml_fields.proofs.Writing.{mixed_outside}
use Rattle.aml_fields.proofs.buffer_field.stored_byte.Goals as goal

pub returns-then-place-field : goal.returns-then-place-field
returns-then-place-field g c =
    let f = c.args.field in
    sym (mixed_outside (in_bytes (first_bit f) f.bits) _ c.args.place c.args.byte c.ranges.byte.fits (λ j low. untouched_below (first_bit f) f.bits c.args.place j (omega (arith, c.if-place-field.true)) low))

pub returns : goal.returns
returns g c =
    let f = c.args.field in
    let bit = g.B.Bits.bit c.args.value.now in
    let e : f.byte + (c.args.place - f.byte) ≡ c.args.place = omega (arith, c.if-place-field.false) in
    let from_bit : c.byte_within.result ≡ mixed (in_bytes f.bit f.bits) bit (c.args.place - f.byte) c.args.byte = c.byte_within.ensures ∙ ap (λ a. mixed (in_bytes a f.bits) bit (c.args.place - f.byte) c.args.byte) c.from.ensures in
    from_bit ∙ mixed_shifted f.byte f.bit f.bits (c.args.place - f.byte) c.args.byte bit ∙ ap (λ u. mixed (in_bytes (first_bit f) f.bits) bit u c.args.byte) e
