-- Which values are of a kind.
use Rattle.std.specs.Prelude.{ℕ, ◌==◌, ◌&&◌, nat_le, length, Bool, true, false}
use Rattle.aml_values.specs.Values.{Value, Int, Buf, Str, Pkg, Elements, none, more, Element, Holds, Named, count}
use Rattle.aml_kinds.specs.Kinds.{Kind, IntUpTo, BufOf, StrOf, PkgOf, AnyPkg, Mixed, Shape, bare, with, ElementKind, ValueOf, AnyName, Anything}

-- as many elements as a package may have
abbrev pub most_elements : ℕ
most_elements = 65535

abbrev mutual
  -- whether a value is of a kind
  pub fits : Value → Kind → Bool
  fits v Mixed = true
  fits (Int n) (IntUpTo greatest) = nat_le n greatest
  fits (Buf bytes) (BufOf size) = length bytes == size
  fits (Str characters) (StrOf size) = length characters == size
  fits (Pkg es) (PkgOf s) = fits_shape es s
  fits (Pkg es) AnyPkg = nat_le (count es) most_elements
  fits v k = false

  -- as many elements as the shape has, each fitting in its place
  pub fits_shape : Elements → Shape → Bool
  fits_shape none bare = true
  fits_shape (more e es) (with k ks) = fits_place e k && fits_shape es ks
  fits_shape es ks = false

  pub fits_place : Element → ElementKind → Bool
  fits_place e Anything = true
  fits_place (Holds v) (ValueOf k) = fits v k
  fits_place (Named object) AnyName = true
  fits_place e k = false
