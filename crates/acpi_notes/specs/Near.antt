-- What is told of a path that is no method's.
use Rattle.std.specs.Prelude.{◌≡◌, ◌==◌, ◌-◌, ◌++◌, ◌⊎◌, ℕ, List, [], ◌∷◌, codes, length, map, replicate, Option, Some, None, if◌then◌else◌}
use Rattle.std.specs.List.{join_with_byte, slice_split}
use Rattle.std.specs.Option.{option_map}
use Rattle.std.specs.Str.{bytes_eq, str_to_ascii_uppercase}
use Rattle.aml_objects.specs.Entries.{Entries}
use Rattle.aml_namespace.specs.PrintedObjects.{printed_object}
use Rattle.acpi_notes.specs.Text.{joined}

-- a word without the `\` in front, where it has one
abbrev pub below_root : List ℕ → List ℕ
below_root [] = []
below_root (c ∷ rest) = if c == 92 then rest else c ∷ rest

-- a segment in upper case, with `_` behind it up to four characters
abbrev pub padded : List ℕ → List ℕ
padded segment = str_to_ascii_uppercase segment ++ replicate (4 - length segment) 95

-- what stands between the dots of a text, each padded
unfoldable pub printed_segments : List ℕ → List ℕ
printed_segments text = join_with_byte 46 (map padded (slice_split (λ b. b == 46) text))

-- the path as it is printed that a word may mean; of no segments the root's
unfoldable pub printed_form : List ℕ → List ℕ
printed_form word =
    let below = below_root word in
    if length below == 0 then codes "\\" else 92 ∷ printed_segments below

-- that path, where it is not the word itself and something has it
abbrev pub near_path : Entries → List ℕ → Option (List ℕ)
near_path entries word =
    if bytes_eq (printed_form word) word then None
    else option_map (λ id. printed_form word) (printed_object entries (printed_form word))

unfoldable pub no_method_note : List ℕ → List ℕ
no_method_note word = joined (word ∷ codes " is no method of a table: names shows what it is" ∷ [])

-- of a path that nothing has: the one that may be meant
unfoldable pub near_note : List ℕ → List ℕ → List ℕ
near_note word path = joined (codes "nothing has the path " ∷ word ∷ codes "; " ∷ path
    ∷ codes " is there" ∷ [])

-- the same where none may be: how far it leads
unfoldable pub far_note : List ℕ → List ℕ → List ℕ
far_note word front = joined (codes "nothing has the path " ∷ word ∷ codes "; of it " ∷ front
    ∷ codes " is there" ∷ [])

-- something has a path, as the root always is there
abbrev pub IsThere : Entries → List ℕ → Type 0
IsThere entries path =
    (path ≡ codes "\\") ⊎ ((id : ℕ) × (printed_object entries path ≡ Some id))

-- by the path that may be meant
abbrev pub IsMissingNote : Entries → List ℕ → Option (List ℕ) → List ℕ → Type 0
IsMissingNote entries word (Some path) note = note ≡ near_note word path
IsMissingNote entries word None note =
    (front : List ℕ) × IsThere entries front × (note ≡ far_note word front)

-- by the object that has the path, if one has: it is no method, or there is none
abbrev pub IsObjectNote : Entries → List ℕ → Option ℕ → List ℕ → Type 0
IsObjectNote entries word (Some id) note = note ≡ no_method_note word
IsObjectNote entries word None note =
    IsMissingNote entries word (near_path entries word) note
