-- Kinds within others.
use Rattle.std.proofs.Common.{◌≡◌, Bool, true, false, ap, refl, ◌∙◌, IsTrue, ◌↔◌}
use Rattle.aml_kinds.specs.Kinds.{Kind, PkgOf, AnyPkg, Shape}
use Rattle.aml_kinds.specs.SameKinds.{same_shape}
use Rattle.aml_kinds.specs.Joins.{IsWithin, if_same}
use Rattle.aml_kinds.proofs.SameKinds.{same_shape-equal}

-- a choice that gives the one kind was made for it
chosen : (b : Bool) (s t : Shape) → if_same b (PkgOf s) AnyPkg ≡ PkgOf t → b ≡ true
chosen true s t e = refl
chosen false s t e = cc

shapes_within : (s t : Shape) → same_shape s t ≡ true → IsWithin (PkgOf s) (PkgOf t)
shapes_within s t e = ap (λ b. if_same b (PkgOf s) AnyPkg) e ∙ ap PkgOf (same_shape-equal s t e)

-- a shape is within a shape just where they are the same
within_shape : (s t : Shape) → IsTrue (same_shape s t) ↔ IsWithin (PkgOf s) (PkgOf t)
within_shape s t = (λ h. shapes_within s t h, λ e. chosen (same_shape s t) s t e)

pub within_told : (b : Bool) (j k : Kind) (s t : Shape) → b ≡ same_shape s t → j ≡ PkgOf s → k ≡ PkgOf t → IsTrue b ↔ IsWithin j k
within_told b j k s t e p q = rw (e, p, q) (within_shape s t)
