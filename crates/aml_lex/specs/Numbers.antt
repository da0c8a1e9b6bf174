-- Numbers in bytes (ACPI 6.5, 20.2.3 and 20.2.4).
use Rattle.std.specs.Prelude.{ℕ, ◌+◌, ◌*◌, ◌%◌, List, [], ◌∷◌}

-- the number that bytes spell, the lowest first
abbrev pub little : List ℕ → ℕ
little [] = 0
little (b ∷ bs) = b + 256 * little bs

-- the value of a lead byte and the bytes that follow it: bits 5:0 of a lead byte alone, or its bits
-- 3:0 and then eight bits a byte
abbrev pub pkg_value : ℕ → List ℕ → ℕ
pkg_value lead [] = lead % 64
pkg_value lead (b ∷ bs) = lead % 16 + 16 * little (b ∷ bs)
