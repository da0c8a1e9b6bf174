-- What own names hold first.
use Rattle.std.proofs.Common.{◌≡◌, refl, ap}
use Rattle.std.specs.Option.{option_map}
use Rattle.std.specs.Prelude.{◌-◌, ◌^◌, Option, Some, None}
use Rattle.aml_values.specs.Views.{view as value_view}
use Rattle.aml_values.specs.declared.value.Value as program_value
use Rattle.aml_values.specs.Values.{Value, Int, Buf, Str, Pkg}
use Rattle.aml_contents.specs.ContentViews.{content}
use Rattle.aml_contents.specs.FirstKinds.{first_kind, greatest_of, held_first, name_kind, within_width}
use Rattle.aml_objects.specs.declared.width.Width.{Width}
use Rattle.aml_objects.specs.Widths.{bits_of}
use Rattle.aml_meaning.specs.Owns.{first_held}
use Rattle.aml_machine.specs.Views.{value_of}

-- a first content is what the names of the program hold first
held_as_first : (width : Width) (v : Value) → first_held (bits_of width) v ≡ within_width width v
held_as_first width (Int n) = refl
held_as_first width (Buf bytes) = refl
held_as_first width (Str characters) = refl
held_as_first width (Pkg es) = refl

-- what an own name holds first, and its kind, are those of the names of the program
pub first_of_program : (width : Width) (held : Option program_value.Value) → option_map (first_held (bits_of width)) (value_of held) ≡ held_first width (content held)
first_of_program width None = refl
first_of_program width (Some v) = ap Some (held_as_first width (value_view v))

pub kind_of_program : (width : Width) (held : Option program_value.Value) → option_map (name_kind (2 ^ bits_of width - 1)) (value_of held) ≡ first_kind (greatest_of width) (content held)
kind_of_program width None = refl
kind_of_program width (Some v) = refl
