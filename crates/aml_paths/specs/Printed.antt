-- Paths as they are printed: `\` and the segments, joined by `.`.
use Rattle.std.specs.Prelude.{◌≡◌, ◌==◌, ℕ, List, [], ◌∷◌, ◌++◌, All, length, Option, Some, None, if◌then◌else◌}
use Rattle.std.specs.Option.{option_map}
use Rattle.aml_paths.specs.Paths.{Path}

-- segments, joined by `.`
abbrev pub segments_text : Path → List ℕ
segments_text [] = []
segments_text (s ∷ []) = s
segments_text (s ∷ t ∷ path) = s ++ 46 ∷ segments_text (t ∷ path)

abbrev pub path_text : Path → List ℕ
path_text path = 92 ∷ segments_text path

-- the segments that a text prints, where it prints one or more: four characters each
abbrev pub segments_in : List ℕ → Option Path
segments_in (a ∷ b ∷ c ∷ d ∷ []) = Some ((a ∷ b ∷ c ∷ d ∷ []) ∷ [])
segments_in (a ∷ b ∷ c ∷ d ∷ e ∷ more) =
    if e == 46 then option_map (λ path. (a ∷ b ∷ c ∷ d ∷ []) ∷ path) (segments_in more) else None
segments_in text = None

-- the path that a text prints; the root's names no object
abbrev pub path_in : List ℕ → Option Path
path_in [] = None
path_in (c ∷ text) = if c == 92 then segments_in text else None

-- what is printed of a path that is not the root's, in segments of four characters, prints that
-- path
abbrev pub PrintedIsRead : Type 0
PrintedIsRead = (first : List ℕ) (path : Path) → All (λ s. length s ≡ 4) (first ∷ path) →
    path_in (path_text (first ∷ path)) ≡ Some (first ∷ path)
