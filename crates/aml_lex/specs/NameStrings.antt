-- Name strings as values (ACPI 6.5, 20.2.2).
use Rattle.std.specs.Prelude.{ℕ, Bool, List, [], ◌∷◌}

-- whether it begins at the root, how many parents it goes up, and its segments of four bytes each
pub record NameString : Type 0 where
  pub rooted : Bool
  pub parents : ℕ
  pub segs : List (List ℕ)

-- bytes cut into segments
abbrev pub segments_of : List ℕ → List (List ℕ)
segments_of (a ∷ b ∷ c ∷ d ∷ more) = (a ∷ b ∷ c ∷ d ∷ []) ∷ segments_of more
segments_of bytes = []
