use Rattle.std.proofs.Common.{◌≡◌, ℕ, ◌<◌, ◌≢◌, ◌+◌, ◌*◌, ◌/◌, length, get_or-set_other, get_or-set_same, ap, ◌∙◌, arith, below_more}
use Rattle.std.proofs.lemmas.List.FromFn.{fill_by_all}
use Rattle.aml_regions.specs.Bits.{byte_bit, number}
use Rattle.aml_regions.specs.BufferFields.{bytes_of}
use Rattle.aml_fields.proofs.Numbers.{number_same}
use Rattle.aml_fields.proofs.WideBytes.{byte_so_far, so_far}
use Rattle.aml_fields.proofs.buffer.read_wide_buffer_field.Goals as goal

pub loop-place-preserved : goal.loop-place-preserved
loop-place-preserved c =
    let n = c.args.bits in
    let m = c.loop-place.place in
    let t = c.min-take.result in
    let i = c.loop-place.invariant in
    let f = λ (k : ℕ). byte_bit c.args.buffer.now (c.args.at + k) in
    let inside : m < length c.loop-place.bytes = omega arith in
    let early : m * 8 < n = omega (arith, c.requires.size) in
    let start : c.loop-place.done ≡ m * 8 = omega (arith, i.done) in
    let bits : number t (λ j. byte_bit c.args.buffer.now (c.args.at + c.loop-place.done + j)) ≡ number t (λ j. f (m * 8 + j)) = number_same t _ _ (λ j lt. ap (byte_bit c.args.buffer.now) (omega (arith, start))) in
    let byte : c.part_of_bytes.result ≡ number 8 (λ j. so_far n f (m * 8 + j)) = c.part_of_bytes.ensures.is ∙ bits ∙ byte_so_far n t m f (omega (arith, c.min-take.ensures)) (omega (arith, c.min-take.ensures, start)) (λ lt. omega (arith, c.min-take.ensures, start)) in
    record {
      done = omega (arith, start, c.min-take.ensures);
      below = below_more _ _
          (λ j lt. let ne : j ≢ m = omega arith in rw get_or-set_other (i.below j lt))
          (rw get_or-set_same byte);
    }

pub returns : goal.returns
unfolding bytes_of
returns c = fill_by_all _ c.loop-place.bytes ((c.args.bits + 7) / 8) 0 (omega (arith, c.requires.size)) (λ k lt. c.loop-place.invariant.below k (omega (arith, c.requires.size)))
