-- Elements as lists.
use Rattle.std.proofs.Common.{◌≡◌, suc, List, [], ◌∷◌, length, ap, refl}
use Rattle.aml_values.specs.Values.{count}
use Rattle.aml_values.specs.Views.{elements_of}
use Rattle.aml_values.specs.declared.value.Element as program_element

pub count-elements_of : (es : List program_element.Element) → count (elements_of es) ≡ length es
count-elements_of [] = refl
count-elements_of (e ∷ es) = ap suc (count-elements_of es)
