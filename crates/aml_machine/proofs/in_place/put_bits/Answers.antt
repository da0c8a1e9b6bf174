use Rattle.std.proofs.Common.{◌≡◌, ℕ, ◌^◌, ◌<◌, List, get_or, refl, ap, ◌∙◌, subst, arith}
use Rattle.std.specs.Prelude.{slice_index}
use Rattle.aml_contents.specs.Held.{contents}
use Rattle.aml_regions.specs.BufferFields.{in_bytes}
use Rattle.aml_regions.specs.Fields.{mixed}
use Rattle.aml_meaning.specs.BufferFields.{first_bit}
use Rattle.aml_machine.specs.Views.{buffer_of}
use Rattle.aml_machine.proofs.InPlace.{held_so_far, stored_all, stored_more, stored_none}
use Rattle.aml_machine.proofs.in_place.put_bits.Goals as goal

pub loop-place-init : goal.loop-place-init
loop-place-init g c = record {
  put = λ bytes e.
      let is : c.bytes_of.result.now ≡ bytes = c.bytes_of.ensures ∙ ap buffer_of (c.get.ensures ∙ e) in
      let are = subst (λ (b : List ℕ). (i : ℕ) → slice_index b i < 2 ^ 8) is c.are_bytes.ensures in
      stored_none (contents c.args.names.now) c.args.id.0 c.args.field (g.B.Bits.bit c.args.value.now) bytes are e c.args.field.byte (omega arith);
  kinds = refl;
}

pub loop-place-preserved : goal.loop-place-preserved
loop-place-preserved g c =
    let f = c.args.field in
    let k = c.args.id.0 in
    let place = c.loop-place.place in
    let bit = g.B.Bits.bit c.args.value.now in
    let old = contents c.args.names.now in
    let new = contents c.loop-place.names in
    record {
      put = λ bytes e.
          let is : c.bytes_of.result.now ≡ bytes = c.bytes_of.ensures ∙ ap buffer_of (c.get.ensures ∙ e) in
          let are = subst (λ (b : List ℕ). (i : ℕ) → slice_index b i < 2 ^ 8) is c.are_bytes.ensures in
          let s = c.loop-place.invariant.put bytes e in
          let there : c.bytes_of-in-loop-place.result.now ≡ s.made = c.bytes_of-in-loop-place.ensures ∙ ap buffer_of (c.get-in-loop-place.ensures ∙ held_so_far old k f bit bytes are e new place s) in
          let byte : c.byte_at-old.result ≡ get_or s.made place 0 = c.byte_at-old.ensures ∙ ap (λ (b : List ℕ). slice_index b place) there in
          let given : c.stored_byte-byte.result ≡ mixed (in_bytes (first_bit f) f.bits) bit place c.byte_at-old.result = c.stored_byte-byte.ensures in
          let stored : c.stored_byte-byte.result ≡ mixed (in_bytes (first_bit f) f.bits) bit place (get_or s.made place 0) = given ∙ ap (mixed (in_bytes (first_bit f) f.bits) bit place) byte in
          stored_more old k f bit bytes are e new _ place c.stored_byte-byte.result s stored c.set_byte.ensures.put;
      kinds = c.set_byte.ensures.kinds ∙ c.loop-place.invariant.kinds;
    }

pub returns-clause-put : goal.returns-clause-put
returns-clause-put g c = λ bytes e.
    let f = c.args.field in
    let is : c.bytes_of.result.now ≡ bytes = c.bytes_of.ensures ∙ ap buffer_of (c.get.ensures ∙ e) in
    let are = subst (λ (b : List ℕ). (i : ℕ) → slice_index b i < 2 ^ 8) is c.are_bytes.ensures in
    stored_all (contents c.args.names.now) c.args.id.0 f (g.B.Bits.bit c.args.value.now) bytes are e (contents c.loop-place.names) c.loop-place.place c.requires.laid_out.some (omega (arith, c.loop-place-test.false, c.bytes_from.ensures)) (c.loop-place.invariant.put bytes e)
