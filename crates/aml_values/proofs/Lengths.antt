-- Lists of different lengths.
use Rattle.std.proofs.Common.{◌≡◌, ◌≢◌, Bool, true, false, ◌&&◌, List, [], ◌∷◌, length, ap, refl, ◌∙◌, suc}
use Rattle.aml_values.specs.SameValues.{same_elements, same_element}
use Rattle.aml_values.specs.Views.{element, elements_of}
use Rattle.aml_values.specs.declared.value.Element as program_element

pub and-false : (b : Bool) → (b && false) ≡ false
and-false true = refl
and-false false = refl

-- elements of another number are others
pub same_elements-differ : (ds es : List program_element.Element) → length ds ≢ length es → same_elements (elements_of ds) (elements_of es) ≡ false
same_elements-differ [] [] h = absurd (h refl)
same_elements-differ [] (e ∷ es) h = refl
same_elements-differ (d ∷ ds) [] h = refl
same_elements-differ (d ∷ ds) (e ∷ es) h =
    ap (λ b. same_element (element d) (element e) && b) (same_elements-differ ds es (λ same. h (ap suc same))) ∙ and-false (same_element (element d) (element e))
