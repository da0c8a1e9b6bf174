-- Shapes as lists.
use Rattle.std.proofs.Common.{◌≡◌, suc, List, [], ◌∷◌, length, ap, refl}
use Rattle.aml_kinds.specs.Kinds.{places}
use Rattle.aml_kinds.specs.KindViews.{shape_of}
use Rattle.aml_kinds.specs.declared.kind.ElementKind as program_kind

pub places-shape_of : (es : List program_kind.ElementKind) → places (shape_of es) ≡ length es
places-shape_of [] = refl
places-shape_of (e ∷ es) = ap suc (places-shape_of es)
