-- What fields take.
use Rattle.std.proofs.Common.{◌≡◌, ℕ, true, false, List, refl, ap}
use Rattle.aml_values.specs.Values.{Buf}
use Rattle.aml_values.specs.Views.{view}
use Rattle.aml_values.specs.declared.value.Value as program_value
use Rattle.aml_values.specs.declared.value.Value.TheVariants as program
use Rattle.aml_values.specs.declared.bytes.Bytes.{Bytes}
use Rattle.aml_regions.specs.Bits.{byte_bit}
use Rattle.aml_regions.specs.Fields.{layout_of}
use Rattle.aml_regions.specs.declared.field.AnyField.{AnyField}
use Rattle.aml_meaning.specs.declared.error.AmlCause.TheVariants as cause
use Rattle.aml_meaning.specs.Fields.{write_bits}
use Rattle.aml_meaning.specs.FieldValues.{buffer_bits, takes_buffer}
use Rattle.aml_meaning.specs.Meaning.{Setting, bits_stored, place_at}
use Rattle.aml_meaning.specs.Parts.{◌>>=◌, give, lift, stop_with}
use Rattle.aml_meaning.specs.State.{error}

-- a buffer that a field does not take
pub buffer_refused : (here : Setting) (at : ℕ) (f : AnyField) (bytes : List ℕ) → takes_buffer here.width (layout_of f).bits bytes ≡ false → bits_stored here at f (Buf bytes) ≡ (stop_with (error cause.Kind here.table at) >>= write_bits f)
buffer_refused here at f bytes e = ap (λ b. lift (buffer_bits b (place_at here at) bytes) >>= write_bits f) e

-- and one that it takes
pub buffer_taken : (here : Setting) (at : ℕ) (f : AnyField) (bytes : List ℕ) → takes_buffer here.width (layout_of f).bits bytes ≡ true → bits_stored here at f (Buf bytes) ≡ (give (byte_bit bytes) >>= write_bits f)
buffer_taken here at f bytes e = ap (λ b. lift (buffer_bits b (place_at here at) bytes) >>= write_bits f) e

-- what is neither an integer nor a buffer
pub none_taken : (here : Setting) (at : ℕ) (f : AnyField) (v : program_value.Value) → ((n : ℕ) → v ≡ program.Int n → ⊥) → ((bytes : Bytes) → v ≡ program.Buf bytes → ⊥) → bits_stored here at f (view v) ≡ (stop_with (error cause.Kind here.table at) >>= write_bits f)
none_taken here at f (program.Int n) i b = absurd (i n refl)
none_taken here at f (program.Buf bytes) i b = absurd (b bytes refl)
none_taken here at f (program.Str characters) i b = refl
none_taken here at f (program.Pkg elements) i b = refl
