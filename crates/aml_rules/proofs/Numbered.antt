-- Elements of packages as elements of lists.
use Rattle.std.proofs.Common.{◌≡◌, ℕ, zero, suc, List, [], ◌∷◌, slice_get, refl}
use Rattle.std.specs.Option.{option_map}
use Rattle.aml_values.specs.declared.value.Element as program_element
use Rattle.aml_values.specs.Views.{element, elements_of}
use Rattle.aml_meaning.specs.Elements.{element_numbered}

pub numbered : (es : List program_element.Element) (i : ℕ) → element_numbered (elements_of es) i ≡ option_map element (slice_get es i)
numbered [] i = refl
numbered (e ∷ es) zero = refl
numbered (e ∷ es) (suc i) = numbered es i
