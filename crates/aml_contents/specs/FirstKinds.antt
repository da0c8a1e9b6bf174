-- The kinds that names have by their first contents.
use Rattle.std.specs.Prelude.{ℕ, ◌-◌, ◌^◌, ◌%◌, length, Option}
use Rattle.std.specs.Option.{option_map}
use Rattle.aml_objects.specs.declared.width.Width.{Width}
use Rattle.aml_objects.specs.Widths.{bits_of}
use Rattle.aml_values.specs.Values.{Value, Int, Buf, Str, Pkg, Elements, none, more, Element, Holds, Named, Unset}
use Rattle.aml_kinds.specs.Kinds.{Kind, IntUpTo, BufOf, StrOf, PkgOf, Shape, bare, with, ElementKind, ValueOf, AnyName, Anything}

abbrev mutual
  -- the narrowest kind of a value
  pub kind_by : Value → Kind
  kind_by (Int n) = IntUpTo n
  kind_by (Buf bytes) = BufOf (length bytes)
  kind_by (Str characters) = StrOf (length characters)
  kind_by (Pkg es) = PkgOf (shape_by es)

  pub shape_by : Elements → Shape
  shape_by none = bare
  shape_by (more e es) = with (place_by e) (shape_by es)

  pub place_by : Element → ElementKind
  place_by (Holds v) = ValueOf (kind_by v)
  place_by (Named o) = AnyName
  place_by Unset = Anything

-- the greatest integer
abbrev pub greatest_of : Width → ℕ
greatest_of width = 2 ^ bits_of width - 1

-- the kind of a name: where it holds an integer first, it may hold each up to the greatest
abbrev pub name_kind : ℕ → Value → Kind
name_kind greatest (Int n) = IntUpTo greatest
name_kind greatest v = kind_by v

abbrev pub first_kind : ℕ → Option Value → Option Kind
first_kind greatest v = option_map (name_kind greatest) v

-- an integer is taken modulo 2 to the width
abbrev pub within_width : Width → Value → Value
within_width width (Int n) = Int (n % 2 ^ bits_of width)
within_width width v = v

-- what a name holds first
abbrev pub held_first : Width → Option Value → Option Value
held_first width v = option_map (within_width width) v
