-- Bits of a list of bytes, a byte at a time.
use Rattle.std.proofs.Common.{◌≡◌, ℕ, ◌+◌, ◌*◌, ◌/◌, ◌%◌, ◌^◌, ◌<◌, ◌≤◌, List, get_or, refl, arith}
use Rattle.std.proofs.lemmas.Nat.{shl_below}
use Rattle.std.proofs.lemmas.Nat.Bits.{bit_at-lt}
use Rattle.std.proofs.Math.Nat.{lt_of_lt_of_le, pow-le-pow_right}
use Rattle.std.specs.Int.{bit_at}
use Rattle.aml_regions.specs.Bits.{byte_bit, number}
use Rattle.aml_fields.proofs.Numbers.{number-add, number-lt, number_same}

-- a run of bits above others fits 64 bits
pub above_fits : (x take done n : ℕ) → x < 2 ^ take → done + take ≤ n → n ≤ 64 → x * 2 ^ done < 2 ^ 64
above_fits x take done n lt within short =
    let le : take + done ≤ 64 = omega arith in
    lt_of_lt_of_le (shl_below x take done lt) (pow-le-pow_right (omega arith) le)

pub byte_bits_lt : (bytes : List ℕ) (from n : ℕ) → number n (λ i. byte_bit bytes (from + i)) < 2 ^ n
byte_bits_lt bytes from n = number-lt n _ (λ i. bit_at-lt _ _)

-- one more byte's run of bits
pub byte_more : (bytes : List ℕ) (from done take byte : ℕ) → (from + done) % 8 + take ≤ 8 → byte ≡ get_or bytes ((from + done) / 8) 0 → number (done + take) (λ i. byte_bit bytes (from + i)) ≡ number take (λ i. bit_at byte ((from + done) % 8 + i)) * 2 ^ done + number done (λ i. byte_bit bytes (from + i))
byte_more bytes from done take byte fits is =
    let high = number_same take (λ i. byte_bit bytes (from + (done + i))) (λ i. bit_at byte ((from + done) % 8 + i))
    (λ i lt.
    let row : (from + (done + i)) / 8 ≡ (from + done) / 8 = omega arith in
    let place : (from + (done + i)) % 8 ≡ (from + done) % 8 + i = omega arith in
    rw (row, place, is) refl) in
    rw (number-add done take (λ i. byte_bit bytes (from + i)), high) refl
