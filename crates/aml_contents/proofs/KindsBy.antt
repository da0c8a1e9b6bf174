-- Kinds of values, as lists of places.
use Rattle.std.proofs.Common.{◌≡◌, List, [], ◌∷◌, map, refl, ap, ◌∙◌}
use Rattle.aml_values.specs.declared.value.Element as program_element
use Rattle.aml_values.specs.Views.{element, elements_of}
use Rattle.aml_kinds.specs.declared.kind.ElementKind as program_kind
use Rattle.aml_kinds.specs.KindViews.{element_kind, shape_of}
use Rattle.aml_kinds.specs.Kinds.{with, shaped}
use Rattle.aml_contents.specs.FirstKinds.{place_by, shape_by}

-- the shape of a package has the places of its elements
pub shaped-places : (es : List program_element.Element) → shaped (map (λ e. place_by (element e)) es) ≡ shape_by (elements_of es)
shaped-places [] = refl
shaped-places (e ∷ es) = ap (with (place_by (element e))) (shaped-places es)

-- the shape that is made of them
pub shape_made : (made : List program_kind.ElementKind) (es : List program_element.Element) → map element_kind made ≡ map (λ e. place_by (element e)) es → shape_of made ≡ shape_by (elements_of es)
shape_made made es e = ap shaped e ∙ shaped-places es
