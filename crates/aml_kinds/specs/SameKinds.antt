-- Whether two kinds are the same.
use Rattle.std.specs.Prelude.{◌==◌, ◌&&◌, Bool, true, false, Option, Some, None}
use Rattle.aml_kinds.specs.Kinds.{Kind, IntUpTo, BufOf, StrOf, PkgOf, AnyPkg, Mixed, Shape, bare, with, ElementKind, ValueOf, AnyName, Anything}

abbrev mutual
  pub same_kind : Kind → Kind → Bool
  same_kind (IntUpTo m) (IntUpTo n) = m == n
  same_kind (BufOf m) (BufOf n) = m == n
  same_kind (StrOf m) (StrOf n) = m == n
  same_kind (PkgOf s) (PkgOf t) = same_shape s t
  same_kind AnyPkg AnyPkg = true
  same_kind Mixed Mixed = true
  same_kind j k = false

  pub same_shape : Shape → Shape → Bool
  same_shape bare bare = true
  same_shape (with d ds) (with e es) = same_element_kind d e && same_shape ds es
  same_shape s t = false

  pub same_element_kind : ElementKind → ElementKind → Bool
  same_element_kind (ValueOf j) (ValueOf k) = same_kind j k
  same_element_kind AnyName AnyName = true
  same_element_kind Anything Anything = true
  same_element_kind d e = false

-- of contents, where there are any
abbrev pub same_content_kind : Option Kind → Option Kind → Bool
same_content_kind (Some j) (Some k) = same_kind j k
same_content_kind None None = true
same_content_kind j k = false
