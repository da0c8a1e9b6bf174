-- What is found to be the same is equal.
use Rattle.std.proofs.Common.{◌≡◌, ◌&&◌, Bool, true, ap, refl, ◌∙◌, arith, sym, subst, IsTrue, ◌↔◌}
use Rattle.aml_kinds.specs.Kinds.{Kind, IntUpTo, BufOf, StrOf, PkgOf, AnyPkg, Mixed, Shape, bare, with, ElementKind, ValueOf, AnyName, Anything}
use Rattle.aml_kinds.specs.SameKinds.{same_kind, same_shape, same_element_kind}
use Rattle.aml_values.proofs.Same.{same_number, number_same, both_first, both_second}

mutual
  pub same_kind-equal : (j k : Kind) → same_kind j k ≡ true → j ≡ k
  same_kind-equal (IntUpTo m) (IntUpTo n) e = ap IntUpTo (same_number m n e)
  same_kind-equal (BufOf m) (BufOf n) e = ap BufOf (same_number m n e)
  same_kind-equal (StrOf m) (StrOf n) e = ap StrOf (same_number m n e)
  same_kind-equal (PkgOf s) (PkgOf t) e = ap PkgOf (same_shape-equal s t e)
  same_kind-equal AnyPkg AnyPkg e = refl
  same_kind-equal Mixed Mixed e = refl
  same_kind-equal j k e = cc

  pub same_shape-equal : (s t : Shape) → same_shape s t ≡ true → s ≡ t
  same_shape-equal bare bare e = refl
  same_shape-equal (with d ds) (with f fs) e =
      ap (λ g. with g ds) (same_element_kind-equal d f (both_first (same_element_kind d f) (same_shape ds fs) e)) ∙ ap (λ g. with f g) (same_shape-equal ds fs (both_second (same_element_kind d f) (same_shape ds fs) e))
  same_shape-equal s t e = cc

  pub same_element_kind-equal : (d f : ElementKind) → same_element_kind d f ≡ true → d ≡ f
  same_element_kind-equal (ValueOf j) (ValueOf k) e = ap ValueOf (same_kind-equal j k e)
  same_element_kind-equal AnyName AnyName e = refl
  same_element_kind-equal Anything Anything e = refl
  same_element_kind-equal d f e = cc

mutual
  pub kind_same : (k : Kind) → same_kind k k ≡ true
  kind_same (IntUpTo n) = number_same n
  kind_same (BufOf n) = number_same n
  kind_same (StrOf n) = number_same n
  kind_same (PkgOf s) = shape_same s
  kind_same AnyPkg = refl
  kind_same Mixed = refl

  pub shape_same : (s : Shape) → same_shape s s ≡ true
  shape_same bare = refl
  shape_same (with e es) = ap (λ b. b && same_shape es es) (element_same e) ∙ shape_same es

  pub element_same : (e : ElementKind) → same_element_kind e e ≡ true
  element_same (ValueOf k) = kind_same k
  element_same AnyName = refl
  element_same Anything = refl

-- whether two kinds are found to be the same decides whether they are
pub same_kind_decides : (b : Bool) (j k : Kind) → b ≡ same_kind j k → IsTrue b ↔ (j ≡ k)
same_kind_decides b j k e =
    (λ h. same_kind-equal j k (sym e ∙ h), λ h. e ∙ subst (λ x. same_kind j x ≡ true) h (kind_same j))
