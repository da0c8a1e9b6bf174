-- Numbers and bytes by their bits.
use Rattle.std.specs.Prelude.{ℕ, zero, suc, ◌+◌, ◌*◌, ◌/◌, ◌%◌, ◌^◌, List, slice_index}
use Rattle.std.specs.Int.{bit_at}

-- the number of n bits whose bit i is f i
unfoldable pub number : ℕ → (ℕ → ℕ) → ℕ
number zero f = 0
number (suc n) f = f n * 2 ^ n + number n f

-- bit p of a list of bytes, the lowest of which stands first; 0 past its end
abbrev pub byte_bit : List ℕ → ℕ → ℕ
byte_bit bytes p = bit_at (slice_index bytes (p / 8)) (p % 8)
