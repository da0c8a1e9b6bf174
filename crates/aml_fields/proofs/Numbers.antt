-- Laws of numbers by their bits.
use Rattle.std.proofs.Common.{◌≡◌, ℕ, zero, suc, ◌+◌, ◌-◌, ◌*◌, ◌/◌, ◌%◌, ◌^◌, ◌<◌, ◌≤◌, refl, sym, ap, ◌∙◌, subst, arith, ⊎_elim}
use Rattle.std.proofs.lemmas.Nat.{mod-pow-add, pow-add, shr-shr, pow_pos, mul-le, div_below}
use Rattle.std.proofs.lemmas.Nat.Bits.{bit_at_lowest, bit_at_cat_low, bit_at_cat_high}
use Rattle.std.proofs.lemmas.Bool.{cases_lt}
use Rattle.std.proofs.Math.Nat.{mod-eq_of_lt, pow-le-pow_right}
use Rattle.std.specs.Int.{bit_at}
use Rattle.aml_regions.specs.Bits.{number}

-- bits that agree
pub number_same : (n : ℕ) (f g : ℕ → ℕ) → ((i : ℕ) → i < n → f i ≡ g i) → number n f ≡ number n g
unfolding number
number_same zero f g h = refl
number_same (suc n) f g h =
    let low : number n f ≡ number n g = number_same n f g (λ i lt. h i (omega arith)) in
    let top : f n ≡ g n = h n (omega arith) in
    rw (low, top) refl

-- a run of bits behind another
pub number-add : (m k : ℕ) (f : ℕ → ℕ) → number (m + k) f ≡ number k (λ i. f (m + i)) * 2 ^ m + number m f
unfolding number
number-add m zero f = let e : m + 0 ≡ m = omega arith in rw e (omega arith)
number-add m (suc k) f =
    let e : m + suc k ≡ suc (m + k) = omega arith in
    let ind = number-add m k f in
    let p = pow-add 2 m k in
    rw (e, ind, p) (omega arith)

-- the bits of x from s on
pub number_run : (k x s : ℕ) → number k (λ i. bit_at x (s + i)) ≡ x / 2 ^ s % 2 ^ k
unfolding number
number_run zero x s = omega arith
number_run (suc k) x s =
    let e : suc k ≡ 1 + k = omega arith in
    let top = mod-pow-add (x / 2 ^ s) 1 k in
    let low = number_run k x s in
    let shift = shr-shr x s k in
    rw (e, top, shift, low) (omega arith)

mod_of_bit : (a : ℕ) → a < 2 → a % 2 ≡ a
mod_of_bit a h = omega arith

-- one more bit at the top
top_lt : (n a b : ℕ) → a < 2 → b < 2 ^ n → a * 2 ^ n + b < 2 ^ suc n
top_lt n a b p q =
    let e : suc n ≡ 1 + n = omega arith in
    let s = pow-add 2 1 n in
    let m = mul-le a (2 ^ n) 1 (2 ^ n) (omega arith) (omega arith) in
    rw (e, s) (omega (arith, m))

pub number-lt : (n : ℕ) (f : ℕ → ℕ) → ((i : ℕ) → f i < 2) → number n f < 2 ^ n
unfolding number
number-lt zero f h = omega arith
number-lt (suc n) f h = top_lt n (f n) (number n f) (h n) (number-lt n f h)

-- bit i of it is f i
pub bit_at-number : (n i : ℕ) (f : ℕ → ℕ) → ((i : ℕ) → f i < 2) → i < n → bit_at (number n f) i ≡ f i
unfolding number
bit_at-number zero i f h lt = absurd (omega arith)
bit_at-number (suc n) i f h lt = ⊎_elim
    (λ (low : i < n). bit_at_cat_low (f n) n (number n f) i low ∙ bit_at-number n i f h low)
    (λ (high : n ≤ i).
    let e : i ≡ n = omega arith in
    let d : i - n ≡ 0 = omega arith in
    bit_at_cat_high (f n) n (number n f) i (number-lt n f h) high ∙ rw (d, e, bit_at_lowest) (mod_of_bit (f n) (h n)))
    (cases_lt i n)

-- a number by its own bits
pub number-bit_at : (n x : ℕ) → number n (bit_at x) ≡ x % 2 ^ n
number-bit_at n x =
    let e : x / 2 ^ 0 ≡ x = omega arith in
    number_same n _ _ (λ i lt. ap (bit_at x) (omega arith)) ∙ number_run n x 0 ∙ ap (λ y. y % 2 ^ n) e

regrouped : (t p k r q s : ℕ) → ((t * p + k) * q + s) + r * q ≡ ((t * p + r) * q + s) + k * q
regrouped t p k r q s = omega arith

-- where all bits but a run are those of old: old with the run put in
pub number_replaced : (s k t old : ℕ) (f : ℕ → ℕ) → old < 2 ^ (s + (k + t)) → ((i : ℕ) → i < s → f i ≡ bit_at old i) → ((i : ℕ) → s + k ≤ i → i < s + (k + t) → f i ≡ bit_at old i) → number (s + (k + t)) f + (old / 2 ^ s % 2 ^ k) * 2 ^ s ≡ old + number k (λ i. f (s + i)) * 2 ^ s
number_replaced s k t old f fits low high =
    let whole = number-add s (k + t) f in
    let upper = number-add k t (λ i. f (s + i)) in
    let whole_old = number-add s (k + t) (bit_at old) in
    let upper_old = number-add k t (λ i. bit_at old (s + i)) in
    let lows = number_same s f (bit_at old) low in
    let highs = number_same t (λ i. f (s + (k + i))) (λ i. bit_at old (s + (k + i))) (λ i lt. high (s + (k + i)) (omega arith) (omega arith)) in
    let run = number_run k old s in
    let self : number (s + (k + t)) (bit_at old) ≡ old = number-bit_at (s + (k + t)) old ∙ mod-eq_of_lt fits in
    let old_is : old ≡ (number t (λ i. f (s + (k + i))) * 2 ^ k + old / 2 ^ s % 2 ^ k) * 2 ^ s + number s f = sym self ∙ whole_old ∙ rw (upper_old, run, ← highs, ← lows) refl in
    rw (whole, upper) (regrouped (number t (λ i. f (s + (k + i)))) (2 ^ k) (number k (λ i. f (s + i))) (old / 2 ^ s % 2 ^ k) (2 ^ s) (number s f) ∙ ap (λ x. x + number k (λ i. f (s + i)) * 2 ^ s) (sym old_is))

-- a number below 2 ^ 64 has no bits from 64 on
pub number_past : (k x s : ℕ) → x < 2 ^ 64 → 64 ≤ s → number k (λ i. bit_at x (s + i)) ≡ 0
number_past k x s lt far =
    let le : 2 ^ 64 ≤ 2 ^ s = pow-le-pow_right (omega arith) far in
    let pos = pow_pos s in
    let none = div_below x (2 ^ s) 1 pos (omega arith) in
    let zero_ : x / 2 ^ s ≡ 0 = omega arith in
    let top = pow_pos k in
    number_run k x s ∙ rw zero_ (omega arith)

-- the same for n bits
pub number_put : (n s k old : ℕ) (f : ℕ → ℕ) → s + k ≤ n → old < 2 ^ n → ((i : ℕ) → i < s → f i ≡ bit_at old i) → ((i : ℕ) → s + k ≤ i → i < n → f i ≡ bit_at old i) → number n f + (old / 2 ^ s % 2 ^ k) * 2 ^ s ≡ old + number k (λ i. f (s + i)) * 2 ^ s
number_put n s k old f within fits low high =
    let t = n - (s + k) in
    let e : s + (k + t) ≡ n = omega arith in
    subst (λ m. number m f + (old / 2 ^ s % 2 ^ k) * 2 ^ s ≡ old + number k (λ i. f (s + i)) * 2 ^ s) e
    (number_replaced s k t old f (rw e fits) low (λ i l h. high i l (omega arith)))
