-- The text of `--args`: values, between commas.
use Rattle.std.specs.Prelude.{◌≡◌, ◌<◌, ◌≤◌, ◌^◌, ◌⊎◌, ℕ, List, [], ◌∷◌, ◌++◌, ⊤, All, Option, Some, None, Ok, codes, length}
use Rattle.std.specs.Str.Parse.{IsNumeral, digits_value}
use Rattle.aml_values.specs.Values.{Value, Int, Buf, Str, Pkg, none, more}
use Rattle.aml_regions.specs.Text.{parts_at}
use Rattle.hex.specs.Hex.{decode_of}

-- an integer, below 2^64: decimal digits, or hex digits behind `0x`
abbrev pub IsInteger : List ℕ → ℕ → Type 0
IsInteger text n =
    (n < 2 ^ 64) × ((IsNumeral 10 text × (n ≡ digits_value 10 text))
    ⊎ ((digits : List ℕ) × (text ≡ 48 ∷ 120 ∷ digits) × IsNumeral 16 digits
    × (n ≡ digits_value 16 digits)))

-- the most bytes of a buffer
abbrev pub most_bytes : ℕ
most_bytes = 65536

-- the bytes of a buffer, in hex
abbrev pub AreBytes : List ℕ → List ℕ → Type 0
AreBytes digits bytes = (decode_of digits ≡ Ok bytes) × (length bytes ≤ most_bytes)

-- the characters of a string (ACPI 6.5, 20.2.3): ASCII, and no zero, which would end it
abbrev pub AreCharacters : List ℕ → Type 0
AreCharacters text = All (λ b. (0 < b) × (b < 128)) text

-- a value: an integer, `buf:` and bytes in hex, `str:` and characters, or `pkg` for the empty
-- package
abbrev pub IsArgument : List ℕ → Value → Type 0
IsArgument text (Int n) = IsInteger text n
IsArgument text (Buf bytes) =
    (digits : List ℕ) × (text ≡ codes "buf:" ++ digits) × AreBytes digits bytes
IsArgument text (Str characters) = (text ≡ codes "str:" ++ characters) × AreCharacters characters
IsArgument text (Pkg none) = text ≡ codes "pkg"
IsArgument text (Pkg (more e es)) = ⊥

-- no value's text
abbrev pub IsNoArgument : List ℕ → Type 0
IsNoArgument text = (v : Value) → IsArgument text v → ⊥

-- some value's text
abbrev pub IsAnyArgument : List ℕ → Type 0
IsAnyArgument text = (v : Value) × IsArgument text v

-- the elements of a text, between its commas
abbrev pub elements : List ℕ → List (List ℕ)
elements text = parts_at 44 text

-- elements and their values
abbrev pub AreArguments : List (List ℕ) → List Value → Type 0
AreArguments [] [] = ⊤
AreArguments (element ∷ others) (v ∷ vs) = IsArgument element v × AreArguments others vs
AreArguments _ _ = ⊥

-- a text lists values by commas
abbrev pub ListsValues : List ℕ → List Value → Type 0
ListsValues text vs = AreArguments (elements text) vs

-- a text has an element that is no value's
abbrev pub ListsNoValues : List ℕ → Type 0
ListsNoValues text =
    (before behind : List (List ℕ)) × (element : List ℕ)
    × (elements text ≡ before ++ (element ∷ behind)) × IsNoArgument element

-- the arguments: those of `--args`, without it none
abbrev pub ListsArguments : Option (List ℕ) → List Value → Type 0
ListsArguments None arguments = arguments ≡ []
ListsArguments (Some text) arguments = ListsValues text arguments

-- `--args` does not list values
abbrev pub ListsBadArguments : Option (List ℕ) → Type 0
ListsBadArguments None = ⊥
ListsBadArguments (Some text) = ListsNoValues text

-- this element is the first that is no value's, and has this number
abbrev pub IsFirstBad : List ℕ → ℕ → List ℕ → Type 0
IsFirstBad text number element =
    (before behind : List (List ℕ)) × (elements text ≡ before ++ (element ∷ behind))
    × (length before ≡ number)
    × All IsAnyArgument before × IsNoArgument element
