-- Bytes of names and texts (ACPI 6.5, 20.2.2 and 20.2.3).
use Rattle.std.specs.Prelude.{ℕ, Bool, true, false, ◌==◌, ◌&&◌, ◌||◌, nat_le}

-- `A` to `Z` or `_`
abbrev pub is_lead_name_char : ℕ → Bool
is_lead_name_char b = (nat_le 0x41 b && nat_le b 0x5A) || b == 0x5F

-- also `0` to `9`
abbrev pub is_name_char : ℕ → Bool
is_name_char b = is_lead_name_char b || (nat_le 0x30 b && nat_le b 0x39)

-- a byte of a segment, which leads it or stands behind its first
abbrev pub fits_name : Bool → ℕ → Bool
fits_name true b = is_lead_name_char b
fits_name false b = is_name_char b

-- 01 to 7F
abbrev pub is_text_char : ℕ → Bool
is_text_char b = nat_le 0x01 b && nat_le b 0x7F
