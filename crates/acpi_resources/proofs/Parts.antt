-- Elements of a _PRT with another number of parts than four.
use Rattle.std.proofs.Common.{◌≡◌, refl, List, [], ◌∷◌, Err, length}
use Rattle.aml_values.specs.Views.{elements_of}
use Rattle.aml_values.specs.declared.value.Element as program
use Rattle.acpi_resources.specs.declared.mapping.EntryFault.TheVariants as wrong
use Rattle.acpi_resources.specs.Mappings.{mapping_of_parts}

pub no_four : (parts : List program.Element) → (length parts ≡ 4 → ⊥) → Err wrong.Parts ≡ mapping_of_parts (elements_of parts)
no_four [] never = refl
no_four (a ∷ []) never = refl
no_four (a ∷ b ∷ []) never = refl
no_four (a ∷ b ∷ c ∷ []) never = refl
no_four (a ∷ b ∷ c ∷ d ∷ []) never = absurd (never refl)
no_four (a ∷ b ∷ c ∷ d ∷ e ∷ parts) never = refl
