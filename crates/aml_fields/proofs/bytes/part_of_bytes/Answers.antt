use Rattle.std.proofs.Common.{◌≡◌, refl, sym, arith}
use Rattle.std.proofs.lemmas.Nat.Bits.{bit_at-lt}
use Rattle.aml_regions.specs.Bits.{number}
use Rattle.aml_fields.proofs.Numbers.{number-lt}
use Rattle.aml_fields.proofs.BytesBits.{above_fits, byte_bits_lt, byte_more}
use Rattle.aml_fields.proofs.bytes.part_of_bytes.Goals as goal

pub loop-done-init : goal.loop-done-init
unfolding number
loop-done-init c = record { most = omega arith; value = refl }

pub above-value-requires-clause-low : goal.above-value-requires-clause-low
above-value-requires-clause-low c = rw c.loop-done.invariant.value (byte_bits_lt _ _ c.loop-done.done)

pub above-value-requires-clause-fits : goal.above-value-requires-clause-fits
above-value-requires-clause-fits c =
    above_fits c.run.result c.min-take.result c.loop-done.done c.args.k (rw c.run.ensures (number-lt c.min-take.result _ (λ j. bit_at-lt _ _))) (omega arith) c.requires.k

pub loop-done-preserved : goal.loop-done-preserved
loop-done-preserved c =
    record {
      most = omega arith;
      value = rw (c.above-value.ensures, c.run.ensures, c.loop-done.invariant.value) (sym (byte_more c.args.bytes.now c.args.from c.loop-done.done c.min-take.result c.byte_at-byte.result (omega arith) c.byte_at-byte.ensures));
    }

pub returns-clause-fits : goal.returns-clause-fits
returns-clause-fits c =
    let e : c.loop-done.done ≡ c.args.k = omega arith in
    rw (← e, c.loop-done.invariant.value) (byte_bits_lt _ _ c.loop-done.done)
