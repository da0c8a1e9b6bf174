-- Masks and shifts as sums of powers of 2.
use Rattle.std.proofs.Common.{◌≡◌, ℕ, ◌+◌, ◌-◌, ◌*◌, ◌/◌, ◌%◌, ◌^◌, ◌<◌, ◌≤◌, bit_and, bit_or, sym, ap, ◌∙◌, arith}
use Rattle.std.proofs.lemmas.Nat.{and_mask, and_comm, and_assoc, and_le_r, and-not, or_comm, or_disjoint, or_shifted, mod_below, mul-add-lt, shr_below, shr_split, pow-add, pow_pos, shl_below, shl_whole, shl-shr}
use Rattle.std.proofs.lemmas.Nat.Bits.{and_high}
use Rattle.std.proofs.Math.Nat.{mod-eq_of_lt, pow-le-pow_right, lt_of_lt_of_le}
use Rattle.std.specs.Int.{bit_at}
use Rattle.aml_regions.specs.Bits.{number}
use Rattle.aml_fields.proofs.Numbers.{number_run}

pub masked : (x s k : ℕ) → bit_and (x / 2 ^ s) (2 ^ k - 1) ≡ number k (λ i. bit_at x (s + i))
masked x s k = and_mask (x / 2 ^ s) k ∙ sym (number_run k x s)

pub or_above : (high m low : ℕ) → low < 2 ^ m → high * 2 ^ m < 2 ^ 64 → bit_or low (high * 2 ^ m % 2 ^ 64) ≡ high * 2 ^ m + low
or_above high m low lt fits = or_comm low (high * 2 ^ m % 2 ^ 64) ∙ ap (λ x. bit_or x low) (mod-eq_of_lt fits) ∙ or_shifted high m low lt

one_less : (q b : ℕ) → q * b ≡ (q + 1) * b - b
one_less q b = omega arith

-- a run of ones behind s zeros
mask_is : (s k : ℕ) → s + k ≤ 64 → (2 ^ k - 1) * 2 ^ s % 2 ^ 64 ≡ 2 ^ (k + s) - 2 ^ s
mask_is s k fits =
    let one = pow_pos k in
    let p = pow-add 2 k s in
    let e : 2 ^ k - 1 + 1 ≡ 2 ^ k = omega arith in
    let lt : 2 ^ k - 1 < 2 ^ k = omega arith in
    shl_whole (2 ^ k - 1) k s 64 lt (omega arith) ∙ rw p (one_less (2 ^ k - 1) (2 ^ s) ∙ ap (λ a. a * 2 ^ s - 2 ^ s) e)

mask_fits : (s k : ℕ) → s + k ≤ 64 → 2 ^ (k + s) - 2 ^ s < 2 ^ 64
mask_fits s k fits =
    let le_bits : k + s ≤ 64 = omega arith in
    let le : 2 ^ (k + s) ≤ 2 ^ 64 = pow-le-pow_right (omega arith) le_bits in
    let pos = pow_pos s in
    let one = pow_pos (k + s) in
    omega arith

pub cleared : (old s k : ℕ) → s + k ≤ 64 → old < 2 ^ 64 → bit_and old (2 ^ 64 - 1 - (2 ^ (k + s) - 2 ^ s)) + (old / 2 ^ s % 2 ^ k) * 2 ^ s ≡ old
cleared old s k fits lt =
    let mask = 2 ^ (k + s) - 2 ^ s in
    let split = and-not 64 mask old (mask_fits s k fits) lt in
    let turned = and_comm old (2 ^ 64 - 1 - mask) in
    let kept = and_comm mask old ∙ and_high old k s in
    rw (turned, ← kept) split

pub put_in : (old s k part : ℕ) → s + k ≤ 64 → old < 2 ^ 64 → part < 2 ^ k → bit_or (bit_and old (2 ^ 64 - 1 - (2 ^ k - 1) * 2 ^ s % 2 ^ 64)) (part * 2 ^ s % 2 ^ 64) + (old / 2 ^ s % 2 ^ k) * 2 ^ s ≡ old + part * 2 ^ s
put_in old s k part fits lt small =
    let mask = 2 ^ (k + s) - 2 ^ s in
    let rest = 2 ^ 64 - 1 - mask in
    let whole = shl_whole part k s 64 small (omega arith) in
    let p = part * 2 ^ s in
    let le_bits : k + s ≤ 64 = omega arith in
    let p_lt : p < 2 ^ 64 = lt_of_lt_of_le (shl_below part k s small) (pow-le-pow_right (omega arith) le_bits) in
    let split = and-not 64 mask p (mask_fits s k fits) p_lt in
    let inside : bit_and mask p ≡ p = and_comm mask p ∙ and_high p k s ∙ ap (λ y. y % 2 ^ k * 2 ^ s) (shl-shr part s) ∙ ap (λ y. y * 2 ^ s) (mod-eq_of_lt small) in
    let none : bit_and rest p ≡ 0 = omega arith in
    let le = and_le_r old 0 in
    let zero_ : bit_and old 0 ≡ 0 = omega arith in
    let apart : bit_and (bit_and old rest) p ≡ 0 = and_assoc p old rest ∙ ap (bit_and old) none ∙ zero_ in
    let sum = or_disjoint (bit_and old rest) p apart in
    let clear = cleared old s k fits lt in
    rw (mask_is s k fits, whole, sum) (omega arith)

put_out : (x r h p part q l old : ℕ) → x + r * q ≡ old + part * q → (h * p + r) * q + l ≡ old → x ≡ (h * p + part) * q + l
put_out x r h p part q l old e f = omega arith

-- a number of n bits with k others put in has n bits
pub put_lt : (n s k old part x : ℕ) → s + k ≤ n → old < 2 ^ n → part < 2 ^ k → x + (old / 2 ^ s % 2 ^ k) * 2 ^ s ≡ old + part * 2 ^ s → x < 2 ^ n
put_lt n s k old part x within fits small e =
    let t = n - (s + k) in
    let all : t + k + s ≡ n = omega arith in
    let low = mod_below old (2 ^ s) (pow_pos s) in
    let split : (old / 2 ^ s / 2 ^ k * 2 ^ k + old / 2 ^ s % 2 ^ k) * 2 ^ s + old % 2 ^ s ≡ old = rw (shr_split (old / 2 ^ s) k) (shr_split old s) in
    let high : old / 2 ^ s / 2 ^ k < 2 ^ t = shr_below (old / 2 ^ s) t k (shr_below old (t + k) s (rw all fits)) in
    let top = mul-add-lt (old / 2 ^ s / 2 ^ k) (2 ^ k) part (2 ^ t) high small in
    let p1 = pow-add 2 t k in
    let p2 = pow-add 2 (t + k) s in
    let upper : old / 2 ^ s / 2 ^ k * 2 ^ k + part < 2 ^ (t + k) = omega (arith, top, p1) in
    let whole = mul-add-lt (old / 2 ^ s / 2 ^ k * 2 ^ k + part) (2 ^ s) (old % 2 ^ s) (2 ^ (t + k)) upper low in
    let is = put_out x (old / 2 ^ s % 2 ^ k) (old / 2 ^ s / 2 ^ k) (2 ^ k) part (2 ^ s) (old % 2 ^ s) old e split in
    rw (is, ← all, p2) (omega (arith, whole))
