-- Shapes as a table keeps them.
use Rattle.std.specs.Prelude.{◌≡◌, ◌++◌, ℕ, List, [], ◌∷◌, Some, slice_get}
use Rattle.std.specs.Option.{option_map}
use Rattle.std.specs.BTreeMap.{BTreeMap, get}
use Rattle.aml_kinds.specs.Kinds.{Shape}
use Rattle.aml_known.specs.Views.{AreApart, element_kind_of}
use Rattle.aml_judged.specs.KindRules.{joined_places}
use Rattle.aml_shapes.specs.Keys.{AreBelow, HasRoom, IsSameKey, JoinsPlaces, key_order, key_shape}
use Rattle.aml_shapes.specs.Numbers.{numbered}
use Rattle.aml_shapes.specs.declared.kept.Kept.{Kept}
use Rattle.aml_shapes.specs.declared.key.ShapeKey.{ShapeKey}

-- the shapes behind some, each by what the numbers of those before it stand for
unfoldable pub shapes_behind : List Shape → List Kept → List Shape
shapes_behind shapes [] = shapes
shapes_behind shapes (k ∷ ks) = shapes_behind (shapes ++ key_shape (numbered shapes) k.key ∷ []) ks

-- the shapes of a table
abbrev pub shapes_kept : List Kept → List Shape
shapes_kept ks = shapes_behind [] ks

-- a shape with a number, which has only shapes with lower numbers inside
pub record IsKept (i : ℕ) (k : Kept) : Type 0 where
  pub room : HasRoom k.key
  pub below : AreBelow i k.key.parts.items
  pub joined : JoinsPlaces k.joined k.key

-- a table's shapes are all different, and each is found by its key
pub record IsTable (ks : List Kept) (numbers : BTreeMap ShapeKey ℕ) : Type 0 where
  pub kept : (i : ℕ) (k : Kept) → slice_get ks i ≡ Some k → IsKept i k
  pub apart : AreApart (numbered (shapes_kept ks))
  pub found : (i : ℕ) (k : Kept) → slice_get ks i ≡ Some k → get key_order numbers k.key ≡ Some i
  pub known : (key : ShapeKey) (i : ℕ) → get key_order numbers key ≡ Some i →
      (k : Kept) × (slice_get ks i ≡ Some k) × IsSameKey k.key key

-- a shape with a key is kept behind the others
pub record IsPut (old new : List Kept) (key : ShapeKey) : Type 0 where
  pub more : Kept
  pub same : IsSameKey more.key key
  pub put : new ≡ old ++ more ∷ []

-- what a number of some shapes stands for is kept
pub record Stands (shapes : List Shape) (n : ℕ) (k : Kept) : Type 0 where
  pub room : HasRoom k.key
  pub shape : numbered shapes n ≡ key_shape (numbered shapes) k.key
  pub joined : option_map (element_kind_of (numbered shapes)) k.joined ≡
      joined_places (numbered shapes n)
