-- Whether two values are the same.
use Rattle.std.specs.Prelude.{◌==◌, ◌&&◌, Bool, true, false, Option, Some, None, bytes_eq}
use Rattle.aml_paths.specs.declared.scope.ObjectId.{ObjectId}
use Rattle.aml_values.specs.Values.{Value, Int, Buf, Str, Pkg, Elements, none, more, Element, Holds, Named, Unset}

-- names of the same object, or of none
abbrev pub same_object : Option ObjectId → Option ObjectId → Bool
same_object (Some a) (Some b) = a.0 == b.0
same_object None None = true
same_object a b = false

abbrev mutual
  pub same_value : Value → Value → Bool
  same_value (Int m) (Int n) = m == n
  same_value (Buf xs) (Buf ys) = bytes_eq xs ys
  same_value (Str xs) (Str ys) = bytes_eq xs ys
  same_value (Pkg ds) (Pkg es) = same_elements ds es
  same_value v w = false

  pub same_elements : Elements → Elements → Bool
  same_elements none none = true
  same_elements (more d ds) (more e es) = same_element d e && same_elements ds es
  same_elements ds es = false

  pub same_element : Element → Element → Bool
  same_element (Holds v) (Holds w) = same_value v w
  same_element (Named a) (Named b) = same_object a b
  same_element Unset Unset = true
  same_element d e = false
