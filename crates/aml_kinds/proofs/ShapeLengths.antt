-- Shapes of other lengths.
use Rattle.std.proofs.Common.{◌≡◌, ◌≢◌, false, ◌&&◌, List, [], ◌∷◌, length, ap, refl, ◌∙◌, suc}
use Rattle.aml_values.specs.Views.{element, elements_of}
use Rattle.aml_values.specs.declared.value.Element as program_element
use Rattle.aml_kinds.specs.Fits.{fits_shape, fits_place}
use Rattle.aml_kinds.specs.SameKinds.{same_shape, same_element_kind}
use Rattle.aml_kinds.specs.KindViews.{element_kind, shape_of}
use Rattle.aml_kinds.specs.declared.kind.ElementKind as program_kind
use Rattle.aml_values.proofs.Lengths.{and-false}

-- shapes of different lengths are different
pub same_shape-differ : (s t : List program_kind.ElementKind) → length s ≢ length t → same_shape (shape_of s) (shape_of t) ≡ false
same_shape-differ [] [] h = absurd (h refl)
same_shape-differ [] (e ∷ t) h = refl
same_shape-differ (d ∷ s) [] h = refl
same_shape-differ (d ∷ s) (e ∷ t) h =
    ap (λ b. same_element_kind (element_kind d) (element_kind e) && b) (same_shape-differ s t (λ same. h (ap suc same))) ∙ and-false (same_element_kind (element_kind d) (element_kind e))

-- elements fit no shape of another length
pub fits_shape-differ : (es : List program_element.Element) (s : List program_kind.ElementKind) → length es ≢ length s → fits_shape (elements_of es) (shape_of s) ≡ false
fits_shape-differ [] [] h = absurd (h refl)
fits_shape-differ [] (k ∷ s) h = refl
fits_shape-differ (e ∷ es) [] h = refl
fits_shape-differ (e ∷ es) (k ∷ s) h =
    ap (λ b. fits_place (element e) (element_kind k) && b) (fits_shape-differ es s (λ same. h (ap suc same))) ∙ and-false (fits_place (element e) (element_kind k))
