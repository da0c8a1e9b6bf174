-- The first line of standard input: its words, and the lines behind it.
use Rattle.std.specs.Prelude.{◌≡◌, ◌≢◌, ◌<◌, ◌-◌, ◌⊎◌, ℕ, List, [], ◌∷◌, ◌++◌, Bool, length, Some, slice_index}
use Rattle.std.specs.Str.{IsUtf8}
use Rattle.acpi_sources.specs.Input.{NextLine, IsTorn}
use Rattle.acpi_sources.specs.Faults.{nowhere}
use Rattle.acpi_sources.specs.declared.fault.Fault.{Fault}
use Rattle.acpi_sources.specs.declared.fault.FaultCause.TheVariants as cause
use Rattle.acpi_sources.specs.declared.hex_lines.HexLines.{HexLines}

-- the most words of a line
abbrev pub most_words : ℕ
most_words = 65536

abbrev pub HasNoSpace : List ℕ → Type 0
HasNoSpace text = (i : ℕ) → i < length text → slice_index text i ≢ 32

-- a text's words, between single spaces; where there are as many as there may be, the last one is
-- all that is left
abbrev pub AreWords : ℕ → List ℕ → List (List ℕ) → Type 0
AreWords most text [] = ⊥
AreWords most text (word ∷ []) = (word ≡ text) × (HasNoSpace word ⊎ (most ≡ 1))
AreWords most text (word ∷ next ∷ rest) =
    (1 < most) × HasNoSpace word ×
    ((behind : List ℕ) × (text ≡ word ++ (32 ∷ behind)) × AreWords (most - 1) behind (next ∷ rest))

-- these words stand on the first line, and these lines behind it
abbrev pub StartsWith : List ℕ → Bool → List (List ℕ) → HexLines → Type 0
StartsWith bytes whole words files =
    (line : List ℕ) × NextLine bytes (Some line) files.lines.rest.now
    × (IsTorn whole line bytes → ⊥) × IsUtf8 line
    × AreWords most_words line words × (files.is_whole ≡ whole)

-- there is no first line, or it may go on behind what was read
abbrev pub HasNoFirstLine : List ℕ → Bool → Type 0
HasNoFirstLine bytes whole = (bytes ≡ [])
    ⊎ ((line rest : List ℕ) × NextLine bytes (Some line) rest × IsTorn whole line bytes)

-- the first line is no text
abbrev pub HasNoTextFirst : List ℕ → Bool → Type 0
HasNoTextFirst bytes whole =
    (line rest : List ℕ) × NextLine bytes (Some line) rest × (IsTorn whole line bytes → ⊥)
    × (IsUtf8 line → ⊥)

-- why no words can be had
abbrev pub FailsToStart : List ℕ → Bool → Fault → Type 0
FailsToStart bytes whole f = ((f ≡ nowhere cause.File) × HasNoFirstLine bytes whole)
    ⊎ ((f ≡ nowhere cause.CommandLine) × HasNoTextFirst bytes whole)
