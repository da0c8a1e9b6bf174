-- What shapes of data are found by: how many places they have, and what stands at the first of
-- them.
use Rattle.std.specs.Prelude.{◌≡◌, ◌<◌, ◌≤◌, ℕ, List, [], ◌∷◌, map, length, Option}
use Rattle.std.specs.Option.{option_map}
use Rattle.std.specs.declared.cmp.Ordering.{Ordering}
use Rattle.aml_kinds.specs.Kinds.{IntUpTo, BufOf, StrOf, PkgOf, Shape, shaped, ElementKind, ValueOf, AnyName}
use Rattle.aml_contents.specs.DataKinds.{counted_places}
use Rattle.aml_known.specs.Views.{AreApart, element_kind_of}
use Rattle.aml_judged.specs.KindRules.{joined_places}
use Rattle.aml_known.specs.declared.known.ElementKnown.{ElementKnown}
use Rattle.aml_shapes.specs.declared.key.Part.{Part}
use Rattle.aml_shapes.specs.declared.key.Part.TheVariants as part
use Rattle.aml_shapes.specs.declared.key.ShapeKey.{ShapeKey}
use Rattle.aml_shapes.specs.contracts.key.ShapeKeyOrd.TheImpl as key_ord

-- what an element is, by what the numbers of shapes stand for
abbrev pub part_kind : (ℕ → Shape) → Part → ElementKind
part_kind shapes part.Name = AnyName
part_kind shapes (part.Int n) = ValueOf (IntUpTo n)
part_kind shapes (part.Buf n) = ValueOf (BufOf n)
part_kind shapes (part.Str n) = ValueOf (StrOf n)
part_kind shapes (part.Pkg i) = ValueOf (PkgOf (shapes i))

-- the shape with so many places: first these, and unset ones behind them
abbrev pub shape_with : (ℕ → Shape) → ℕ → List Part → Shape
shape_with shapes count parts = counted_places count (shaped (map (part_kind shapes) parts))

abbrev pub key_shape : (ℕ → Shape) → ShapeKey → Shape
key_shape shapes k = shape_with shapes k.places k.parts.items

-- no more parts than places
abbrev pub HasRoom : ShapeKey → Type 0
HasRoom k = length k.parts.items ≤ k.places

-- a part's shape has a number below this one
abbrev pub IsBelow : ℕ → Part → Type 0
IsBelow n (part.Pkg i) = i < n
IsBelow n p = Unit {0}

abbrev pub AreBelow : ℕ → List Part → Type 0
AreBelow n [] = Unit {0}
AreBelow n (p ∷ ps) = IsBelow n p × AreBelow n ps

-- two keys of one shape
abbrev pub IsSameKey : ShapeKey → ShapeKey → Type 0
IsSameKey a b = (a.places ≡ b.places) × (a.parts.items ≡ b.parts.items)

-- the order of keys
abbrev pub key_order : ShapeKey → ShapeKey → Ordering
key_order = (key_ord.ghosts).cmp

-- what all places of a key's shape are joined to, for every numbering
abbrev pub JoinsPlaces : Option ElementKnown → ShapeKey → Type 0
JoinsPlaces joined k = (shapes : ℕ → Shape) → AreApart shapes →
    option_map (element_kind_of shapes) joined ≡ joined_places (key_shape shapes k)
