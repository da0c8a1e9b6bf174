-- What is found to be the same is equal.
use Rattle.std.proofs.Common.{◌≡◌, Bool, true, Option, Some, None, ap, refl, sym, subst, ◌∙◌, ◌&&◌, IsTrue, ◌↔◌}
use Rattle.std.specs.Cmp.Lexicographic.{bytes_decides}
use Rattle.aml_paths.specs.declared.scope.ObjectId.{ObjectId}
use Rattle.aml_values.specs.Values.{Value, Int, Buf, Str, Pkg, Elements, none, more, Element, Holds, Named, Unset}
use Rattle.aml_values.specs.SameValues.{same_value, same_elements, same_element, same_object}
use Rattle.aml_values.proofs.Same.{same_number, number_same, both_first, both_second}

same_object-equal : (a b : Option ObjectId) → same_object a b ≡ true → a ≡ b
same_object-equal (Some a) (Some b) e = ap (λ n. Some (record { 0 = n })) (same_number a.0 b.0 e)
same_object-equal None None e = refl
same_object-equal a b e = cc

mutual
  pub same_value-equal : (v w : Value) → same_value v w ≡ true → v ≡ w
  same_value-equal (Int m) (Int n) e = ap Int (same_number m n e)
  same_value-equal (Buf xs) (Buf ys) e = ap Buf ((bytes_decides xs ys).0 e)
  same_value-equal (Str xs) (Str ys) e = ap Str ((bytes_decides xs ys).0 e)
  same_value-equal (Pkg ds) (Pkg es) e = ap Pkg (same_elements-equal ds es e)
  same_value-equal v w e = cc

  pub same_elements-equal : (ds es : Elements) → same_elements ds es ≡ true → ds ≡ es
  same_elements-equal none none e = refl
  same_elements-equal (more d ds) (more f fs) e =
      ap (λ g. more g ds) (same_element-equal d f (both_first (same_element d f) (same_elements ds fs) e)) ∙ ap (λ gs. more f gs) (same_elements-equal ds fs (both_second (same_element d f) (same_elements ds fs) e))
  same_elements-equal ds es e = cc

  pub same_element-equal : (d f : Element) → same_element d f ≡ true → d ≡ f
  same_element-equal (Holds v) (Holds w) e = ap Holds (same_value-equal v w e)
  same_element-equal (Named a) (Named b) e = ap Named (same_object-equal a b e)
  same_element-equal Unset Unset e = refl
  same_element-equal d f e = cc

object_same : (a : Option ObjectId) → same_object a a ≡ true
object_same (Some a) = number_same a.0
object_same None = refl

mutual
  pub value_same : (v : Value) → same_value v v ≡ true
  value_same (Int n) = number_same n
  value_same (Buf xs) = (bytes_decides xs xs).1 refl
  value_same (Str xs) = (bytes_decides xs xs).1 refl
  value_same (Pkg es) = elements_same es

  pub elements_same : (es : Elements) → same_elements es es ≡ true
  elements_same none = refl
  elements_same (more e es) = ap (λ b. b && same_elements es es) (element_same e) ∙ elements_same es

  pub element_same : (e : Element) → same_element e e ≡ true
  element_same (Holds v) = value_same v
  element_same (Named a) = object_same a
  element_same Unset = refl

-- whether two values are found to be the same decides whether they are
pub same_value_decides : (b : Bool) (v w : Value) → b ≡ same_value v w → IsTrue b ↔ (v ≡ w)
same_value_decides b v w e =
    (λ h. same_value-equal v w (sym e ∙ h), λ h. e ∙ subst (λ x. same_value v x ≡ true) h (value_same v))
