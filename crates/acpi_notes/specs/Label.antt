-- How files are called.
use Rattle.std.specs.Prelude.{ℕ, List, [], ◌∷◌, ◌++◌, codes, decimal, slice_get, if◌then◌else◌}
use Rattle.std.specs.Option.{option_map_or}
use Rattle.std.specs.Str.{bytes_eq}
use Rattle.acpi_notes.specs.Text.{joined}

-- how a file is called that stands on a line of standard input
unfoldable pub line_label : ℕ → List ℕ
line_label number = joined (codes "file " ∷ decimal number ∷ codes " of standard input" ∷ [])

-- how the file with a number is called: by its name, or by its number where the name is `@`, or
-- there is none
unfoldable pub label_of : List (List ℕ) → ℕ → List ℕ
label_of names number =
    option_map_or (λ name. if bytes_eq name (codes "@") then line_label number else name)
    (slice_get names number) (codes "file " ++ decimal number)
