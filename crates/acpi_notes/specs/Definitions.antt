-- What is told of a path that is defined twice.
use Rattle.std.specs.Prelude.{◌≡◌, ◌-◌, ℕ, Bool, true, List, [], ◌∷◌, codes, length, nat_eq, string_bytes, Option, Some, None, option_and_then, slice_get}
use Rattle.std.specs.List.{ends_with, list_any}
use Rattle.std.specs.Str.{bytes_eq}
use Rattle.aml_lex.specs.NameStrings.{NameString}
use Rattle.aml_lex.specs.Standing.{name_there}
use Rattle.acpi_notes.specs.declared.definitions.End.{End}
use Rattle.acpi_notes.specs.declared.definitions.End.TheVariants.{NoMemory, Met, Elsewhere}
use Rattle.acpi_notes.specs.declared.definitions.Found.{Found}
use Rattle.acpi_notes.specs.declared.definitions.Found.TheVariants.{Twice, Nothing}
use Rattle.acpi_notes.specs.declared.definitions.Known.{Known}
use Rattle.acpi_notes.specs.declared.definitions.Place.{Place}

-- a name's last segment, where it has one
abbrev pub segment_behind : NameString → Option (List ℕ)
segment_behind name = slice_get name.segs (length name.segs - 1)

-- the last segment of the name that stands at a byte of a table
abbrev pub last_segment : List (List ℕ) → ℕ → ℕ → Option (List ℕ)
last_segment tables table at =
    option_and_then (λ bytes. option_and_then segment_behind (name_there bytes at))
    (slice_get tables table)

-- the paths that are there from the beginning (ACPI 6.5, 5.3.1 and 5.7)
abbrev pub predefined_paths : List (List ℕ)
predefined_paths =
    codes "\\_GPE" ∷ codes "\\_PR_" ∷ codes "\\_SB_" ∷ codes "\\_SI_" ∷ codes "\\_TZ_"
    ∷ codes "\\_REV" ∷ codes "\\_OSI" ∷ codes "\\_OS_" ∷ codes "\\_GL_" ∷ []

abbrev pub is_predefined : List ℕ → Bool
is_predefined path = list_any (bytes_eq path) predefined_paths

-- a path ends in a segment, where there is one
abbrev pub EndsIn : Option (List ℕ) → List ℕ → Type 0
EndsIn None path = Unit {0}
EndsIn (Some segment) path = ends_with nat_eq path segment ≡ true

-- a name's last segment is that of the refused one, where that has one
abbrev pub IsSameSegment : Option (List ℕ) → Option (List ℕ) → Type 0
IsSameSegment None segment = Unit {0}
IsSameSegment (Some refused) segment = segment ≡ Some refused

-- a path ends in the last segment of the name at its first place, which is that of the refused
-- name; a path that has none is predefined
abbrev pub IsFirst : List (List ℕ) → List ℕ → Option (List ℕ) → Option Place → Type 0
IsFirst tables path refused (Some first) =
    let segment = last_segment tables first.table first.at in
    IsSameSegment refused segment × EndsIn segment path
IsFirst tables path refused None = is_predefined path ≡ true

-- the path told ends in the last segment of the refused name, where that has one, and in that of
-- the name that stands at its first place
abbrev pub HaveOneSegment : List (List ℕ) → Place → Found → Type 0
HaveOneSegment tables refused (Twice path first) =
    let segment = last_segment tables refused.table refused.at in
    EndsIn segment (string_bytes path) × IsFirst tables (string_bytes path) segment first
HaveOneSegment tables refused (Nothing wanted) = Unit {0}

-- how the definitions end at a place with what was found there: it is told just of the refused one
abbrev pub IsEndAt : Place → Place → Found → End → Type 0
IsEndAt refused place found (Met told) = (place ≡ refused) × (told ≡ found)
IsEndAt refused place found NoMemory = ⊥
IsEndAt refused place found Elsewhere = place ≡ refused → ⊥

-- where the path with a number was defined
abbrev pub place_of : List Known → ℕ → Option Place
place_of known number = option_and_then (λ path. path.place) (slice_get known number)

-- that is told as the first place of a path that is there already
abbrev pub IsRepeat : List Known → ℕ → End → Type 0
IsRepeat known number (Met (Twice path first)) = first ≡ place_of known number
IsRepeat known number (Met (Nothing wanted)) = ⊥
IsRepeat known number NoMemory = Unit {0}
IsRepeat known number Elsewhere = Unit {0}
