-- Laws of the rules.
use Rattle.std.specs.Prelude.{◌≡◌, ◌^◌, ◌<◌, ℕ, Ok}
use Rattle.aml_values.specs.Values.{Int}
use Rattle.aml_meaning.specs.Conversions.{to_buffer, to_integer}
use Rattle.aml_meaning.specs.Rules.{Place, ◌>>=◌}
use Rattle.aml_objects.specs.Widths.{bits_of}
use Rattle.aml_objects.specs.declared.width.Width.{Width}

-- of the buffer that an integer becomes, the integer is given back
abbrev pub IsGivenBack : Type 0
IsGivenBack = (width : Width) (op p : Place) (n : ℕ) → n < 2 ^ bits_of width →
    (to_buffer (bits_of width) p (Int n) >>= to_integer (bits_of width) op p) ≡ Ok (Int n)
