-- The bytes of an integer give it back.
use Rattle.std.proofs.Common.{◌≡◌, ◌<◌, ◌+◌, ◌*◌, ◌/◌, ◌%◌, ◌^◌, ℕ, zero, suc, Ok, refl, sym, subst, ap, ◌∙◌, arith, lit<}
use Rattle.std.proofs.Math.Nat.{pow-suc, div-one, div-div-eq-div-mul, div-lt_iff_lt-mul}
use Rattle.std.specs.Int.{byte_at, bytes_low_first}
use Rattle.aml_values.specs.Values.{Int}
use Rattle.aml_meaning.specs.Conversions.{bytes_integer}
use Rattle.aml_objects.specs.declared.width.Width.TheVariants.{Bits32, Bits64}
use Rattle.aml_rules.specs.Laws.{IsGivenBack}

byte : (i n : ℕ) → byte_at i n ≡ n / 256 ^ i % 256
byte zero n = ap (λ m. m % 256) (sym (div-one n))
byte (suc i) n = refl

next : (i n : ℕ) → n / 256 ^ suc i ≡ n / 256 ^ i / 256
next i n = ap (λ m. n / m) (pow-suc 256 i) ∙ sym (div-div-eq-div-mul n (256 ^ i) 256)

-- what is left of a number behind some of its bytes, by the bytes from there on
bytes_from : (k i n : ℕ) → n / 256 ^ i < 256 ^ k → bytes_integer (bytes_low_first i k n) ≡ n / 256 ^ i
bytes_from zero i n lt = let none : n / 256 ^ i ≡ 0 = omega (arith, lt) in sym none
bytes_from (suc k) i n lt =
    let most : n / 256 ^ i < 256 ^ k * 256 = subst (λ m. n / 256 ^ i < m) (pow-suc 256 k) lt in
    let below : n / 256 ^ i / 256 < 256 ^ k = (div-lt_iff_lt-mul (lit< tt)).1 most in
    let rest : bytes_integer (bytes_low_first (suc i) k n) ≡ n / 256 ^ i / 256 = bytes_from k (suc i) n (subst (λ m. m < 256 ^ k) (sym (next i n)) below) ∙ next i n in
    let whole : n / 256 ^ i % 256 + 256 * (n / 256 ^ i / 256) ≡ n / 256 ^ i = omega arith in
    ap (λ b. b + 256 * bytes_integer (bytes_low_first (suc i) k n)) (byte i n) ∙ ap (λ r. n / 256 ^ i % 256 + 256 * r) rest ∙ whole

all_bytes : (k n : ℕ) → n < 256 ^ k → bytes_integer (bytes_low_first 0 k n) ≡ n
all_bytes k n lt =
    bytes_from k 0 n (subst (λ m. m < 256 ^ k) (sym (div-one n)) lt) ∙ div-one n

pub given_back : IsGivenBack
given_back Bits32 op p n lt = ap (λ m. Ok (Int m)) (all_bytes 4 n lt)
given_back Bits64 op p n lt = ap (λ m. Ok (Int m)) (all_bytes 8 n lt)
