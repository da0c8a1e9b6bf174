-- Kinds: what is known of a value before evaluation.
use Rattle.std.specs.Prelude.{◌≡◌, ◌≤◌, ℕ, suc, max, List, [], ◌∷◌}
use Rattle.aml_values.specs.Values.{most_nested}

mutual
  -- a kind: integers up to the greatest, buffers and strings of a size, packages of a shape,
  -- packages of any shape, every value
  pub data Kind : Type 0 where
    IntUpTo : (greatest : ℕ) → Kind
    BufOf : (size : ℕ) → Kind
    StrOf : (size : ℕ) → Kind
    PkgOf : (shape : Shape) → Kind
    AnyPkg : Kind
    Mixed : Kind

  -- the kinds of a package's elements, in order
  pub data Shape : Type 0 where
    bare : Shape
    with : (first : ElementKind) (rest : Shape) → Shape

  -- what an element is: a value of a kind, any name, or anything
  pub data ElementKind : Type 0 where
    ValueOf : (kind : Kind) → ElementKind
    AnyName : ElementKind
    Anything : ElementKind

-- the shape with these kinds of elements
abbrev pub shaped : List ElementKind → Shape
shaped [] = bare
shaped (e ∷ es) = with e (shaped es)

-- the number of elements
abbrev pub places : Shape → ℕ
places bare = 0
places (with e es) = suc (places es)

abbrev mutual
  -- how many shapes stand in one another
  pub kind_depth : Kind → ℕ
  kind_depth (IntUpTo n) = 0
  kind_depth (BufOf n) = 0
  kind_depth (StrOf n) = 0
  kind_depth (PkgOf s) = suc (inner_depth s)
  kind_depth AnyPkg = 0
  kind_depth Mixed = 0

  pub inner_depth : Shape → ℕ
  inner_depth bare = 0
  inner_depth (with e es) = max (element_kind_depth e) (inner_depth es)

  pub element_kind_depth : ElementKind → ℕ
  element_kind_depth (ValueOf k) = kind_depth k
  element_kind_depth AnyName = 0
  element_kind_depth Anything = 0

-- the same of a shape, itself counted
abbrev pub shape_depth : Shape → ℕ
shape_depth s = suc (inner_depth s)

-- the depth of a shape, which is not too great
abbrev pub IsNestedShape : ℕ → Shape → Type 0
IsNestedShape deep s = (deep ≡ shape_depth s) × (deep ≤ most_nested)
