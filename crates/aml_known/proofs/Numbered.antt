-- Numbers that never stand for one shape tell whether two shapes are the same.
use Rattle.std.proofs.Common.{◌≡◌, ◌==◌, ℕ, Bool, true, false, refl, sym, ap, subst, ◌∙◌, inl, inr}
use Rattle.std.proofs.lemmas.Bool.Decides.{eqb_tells}
use Rattle.aml_kinds.specs.Kinds.{PkgOf, AnyPkg, Shape}
use Rattle.aml_kinds.specs.Joins.{if_same, join}
use Rattle.aml_kinds.specs.SameKinds.{same_kind, same_shape}
use Rattle.aml_kinds.proofs.SameKinds.{same_shape-equal, shape_same}
use Rattle.aml_judged.specs.Known.{within}
use Rattle.aml_known.specs.Views.{AreApart, kind_of}
use Rattle.aml_known.specs.declared.known.Known.{Known}
use Rattle.aml_known.specs.declared.known.Known.TheVariants as known
use Rattle.aml_known.specs.declared.known.ShapeNumber.{ShapeNumber}

never_true : (b : Bool) → (b ≡ true → ⊥) → b ≡ false
never_true true h = absurd (h refl)
never_true false h = refl

pub same_numbered : (shapes : ℕ → Shape) → AreApart shapes → (i j : ℕ) → same_shape (shapes i) (shapes j) ≡ (i == j)
same_numbered shapes are i j = elim (eqb_tells i j) [
  | inl p ↦ subst (λ k. same_shape (shapes i) (shapes k) ≡ true) p.1 (shape_same (shapes i)) ∙ sym p.0
  | inr p ↦ never_true (same_shape (shapes i) (shapes j)) (λ e. p.1 (are.apart i j (same_shape-equal (shapes i) (shapes j) e))) ∙ sym p.0
]

-- two kinds of packages are joined, and are within one another, by their numbers
pub shapes_joined : (shapes : ℕ → Shape) → AreApart shapes → (j k : Known) (s t : ShapeNumber) → j ≡ known.Pkg s → k ≡ known.Pkg t → if_same (s.0 == t.0) (PkgOf (shapes s.0)) AnyPkg ≡ join (kind_of shapes j) (kind_of shapes k)
shapes_joined shapes are j k s t ej ek =
    ap (λ b. if_same b (PkgOf (shapes s.0)) AnyPkg) (sym (same_numbered shapes are s.0 t.0))
    ∙ ap (λ i. join (kind_of shapes i) (PkgOf (shapes t.0))) (sym ej)
    ∙ ap (λ i. join (kind_of shapes j) (kind_of shapes i)) (sym ek)

found_within : (b : Bool) (s t : Shape) → same_shape s t ≡ b → b ≡ same_kind (if_same b (PkgOf s) AnyPkg) (PkgOf t)
found_within true s t e = sym e
found_within false s t e = refl

pub shape_within : (shapes : ℕ → Shape) → AreApart shapes → (j k : Known) (s t : ShapeNumber) → j ≡ known.Pkg s → k ≡ known.Pkg t → (s.0 == t.0) ≡ within (kind_of shapes j) (kind_of shapes k)
shape_within shapes are j k s t ej ek =
    sym (same_numbered shapes are s.0 t.0)
    ∙ found_within (same_shape (shapes s.0) (shapes t.0)) (shapes s.0) (shapes t.0) refl
    ∙ ap (λ i. within (kind_of shapes i) (PkgOf (shapes t.0))) (sym ej)
    ∙ ap (λ i. within (kind_of shapes j) (kind_of shapes i)) (sym ek)
