-- Text as it is told.
use Rattle.std.specs.Prelude.{ℕ, ◌&&◌, List, [], ◌∷◌, ◌++◌, false, map, nat_le, if◌then◌else◌}
use Rattle.std.specs.Fmt.{digits}

-- these pieces one after the other
abbrev pub joined : List (List ℕ) → List ℕ
joined [] = []
joined (piece ∷ []) = piece
joined (piece ∷ next ∷ rest) = piece ++ joined (next ∷ rest)

-- a number in lower case hex digits, without leading zeros
abbrev pub hex : ℕ → List ℕ
hex n = digits 16 false n

-- a byte as it is shown: a printable ASCII character, or ? for any other
abbrev pub shown_byte : ℕ → ℕ
shown_byte b = if nat_le 32 b && nat_le b 126 then b else 63

abbrev pub shown_bytes : List ℕ → List ℕ
shown_bytes bytes = map shown_byte bytes
