-- What data is told to be, by its parts.
use Rattle.std.proofs.Common.{◌≡◌, List, [], ◌∷◌, length, refl}
use Rattle.aml_operators.specs.declared.term.Term.{Term}
use Rattle.aml_operators.specs.Tree.{views}
use Rattle.aml_objects.specs.declared.object.Content.TheVariants as content
use Rattle.aml_namespace.specs.Made.{buffer_content}

-- a buffer has two parts
pub no_buffer : (parts : List Term) → (length parts ≡ 2 → ⊥) → content.Buffer 0 ≡ buffer_content (views parts)
no_buffer [] never = refl
no_buffer (a ∷ []) never = refl
no_buffer (a ∷ b ∷ []) never = absurd (never refl)
no_buffer (a ∷ b ∷ d ∷ parts) never = refl
