-- Text as it is printed.
use Rattle.std.specs.Prelude.{ℕ, ◌/◌, ◌%◌, ◌==◌, ◌&&◌, List, [], ◌∷◌, ◌++◌, Bool, false, nat_le, not, codes, if◌then◌else◌}
use Rattle.std.specs.Fmt.{digits, digit_glyph}
use Rattle.std.specs.List.{flat_map}

-- these pieces one after the other
abbrev pub joined : List (List ℕ) → List ℕ
joined [] = []
joined (piece ∷ []) = piece
joined (piece ∷ next ∷ rest) = piece ++ joined (next ∷ rest)

-- a number in lower case hex digits, without leading zeros
abbrev pub hex : ℕ → List ℕ
hex n = digits 16 false n

-- whether a byte stands for itself in quoted text: a printable ASCII character but `"` and `\`
abbrev pub is_plain : ℕ → Bool
is_plain b = nat_le 32 b && nat_le b 126 && not (b == 34) && not (b == 92)

-- a byte in quoted text: itself, or `\x` and its two hex digits
abbrev pub escaped_byte : ℕ → List ℕ
escaped_byte b =
    if is_plain b then b ∷ []
    else codes "\\x" ++ (digit_glyph false (b / 16) ∷ digit_glyph false (b % 16) ∷ [])

-- text as it stands between quotes
unfoldable pub escaped : List ℕ → List ℕ
escaped bytes = flat_map escaped_byte bytes
