-- A field of a buffer, counted from a byte on.
use Rattle.std.proofs.Common.{◌≡◌, ℕ, ◌+◌, ◌-◌, ◌*◌, ◌/◌, ◌<◌, ◌≤◌, true, false, ⊎_elim, refl, sym, ap, ◌∙◌, arith}
use Rattle.std.proofs.lemmas.Bool.{cases_lt}
use Rattle.std.proofs.lemmas.Bool.Decides.{nat_tests}
use Rattle.std.specs.Prelude.{nat_le, nat_lt, if◌then◌else◌}
use Rattle.std.specs.Int.{bit_at}
use Rattle.aml_regions.specs.BufferFields.{in_bytes}
use Rattle.aml_regions.specs.Fields.{has, mixed}
use Rattle.aml_fields.proofs.Numbers.{number_same}
use Rattle.aml_fields.proofs.Tests.{below_lt, past_lt}

shift_le : (s a b : ℕ) → nat_le (s + a) (s + b) ≡ nat_le a b
shift_le s a b = ⊎_elim
    (λ (past : b < a). let more : nat_le (s + a) (s + b) ≡ false = grind (arith, nat_tests) in let less : nat_le a b ≡ false = grind (arith, nat_tests) in more ∙ sym less)
    (λ (within : a ≤ b). let more : nat_le (s + a) (s + b) ≡ true = grind (arith, nat_tests) in let less : nat_le a b ≡ true = grind (arith, nat_tests) in more ∙ sym less)
    (cases_lt b a)

shift_lt : (s a b : ℕ) → nat_lt (s + a) (s + b) ≡ nat_lt a b
shift_lt s a b = ⊎_elim
    (λ (within : a < b). let more : nat_lt (s + a) (s + b) ≡ true = grind (arith, nat_tests) in let less : nat_lt a b ≡ true = grind (arith, nat_tests) in more ∙ sym less)
    (λ (past : b ≤ a). let more : nat_lt (s + a) (s + b) ≡ false = grind (arith, nat_tests) in let less : nat_lt a b ≡ false = grind (arith, nat_tests) in more ∙ sym less)
    (cases_lt a b)

-- so many bits later there is the same bit of a field that begins so much later
has_shifted : (s at n p : ℕ) → has (in_bytes (s + at) n) (s + p) ≡ has (in_bytes at n) p
has_shifted s at n p =
    let e : s + at + n ≡ s + (at + n) = omega arith in
    rw (e, shift_le s at p, shift_lt s p (at + n)) refl

bit_shifted : (s at n p x : ℕ) (bit : ℕ → ℕ) → (if has (in_bytes at n) p then bit (p - at) else x) ≡ (if has (in_bytes (s + at) n) (s + p) then bit (s + p - (s + at)) else x)
bit_shifted s at n p x bit =
    let e : s + p - (s + at) ≡ p - at = omega arith in
    rw (has_shifted s at n p, e) refl

pub mixed_shifted : (m at n u other : ℕ) (bit : ℕ → ℕ) → mixed (in_bytes at n) bit u other ≡ mixed (in_bytes (8 * m + at) n) bit (m + u) other
unfolding mixed
mixed_shifted m at n u other bit = number_same 8 _ _ (λ j lt.
    let e : (m + u) * 8 + j ≡ 8 * m + (u * 8 + j) = omega arith in
    bit_shifted (8 * m) at n (u * 8 + j) (bit_at other j) bit ∙ ap (λ q. if has (in_bytes (8 * m + at) n) q then bit (q - (8 * m + at)) else bit_at other j) (sym e))

-- bytes before a field's first bit and behind its last have none of it
pub untouched_below : (at n k j : ℕ) → k < at / 8 → j < 8 → has (in_bytes at n) (k * 8 + j) ≡ false
untouched_below at n k j lt low = below_lt at (k * 8 + j) _ _ (omega arith)

pub untouched_behind : (at n k j : ℕ) → 0 < n → (at + n - 1) / 8 + 1 ≤ k → has (in_bytes at n) (k * 8 + j) ≡ false
untouched_behind at n k j some le = past_lt at (k * 8 + j) _ _ (omega arith)
