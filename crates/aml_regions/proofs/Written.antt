-- A number is that of its bytes.
use Rattle.std.proofs.Common.{◌≡◌, ℕ, ◌+◌, ◌-◌, ◌*◌, ◌/◌, ◌%◌, ◌<◌, ◌^◌, ◌∙◌, refl, sym, ap, zero, suc, arith, true}
use Rattle.std.specs.Prelude.{◌==◌, ◌&&◌, nat_le, nat_lt}
use Rattle.std.specs.Int.{byte_at}
use Rattle.std.proofs.lemmas.Bool.Decides.{nat_tests}
use Rattle.std.proofs.lemmas.Nat.{pow-add, shr-shr}
use Rattle.aml_regions.specs.Bytes.{number_from, with_run, with_unit}
use Rattle.aml_regions.specs.Worlds.{IsUnit}
use Rattle.aml_regions.specs.Laws.{ReadsWhatWasWritten}
use Rattle.aml_regions.specs.declared.access.Access.{Access}

-- a byte of a run where it stands
run_here : (old : ℕ → ℕ → ℕ) (space at count : ℕ) (run : ℕ → ℕ) (i : ℕ) → i < count → with_run old space at count run space (at + i) ≡ run i
run_here old space at count run i within =
    let here : ((space == space) && (nat_le at (at + i) && nat_lt (at + i) (at + count))) ≡ true = grind (arith, nat_tests) in
    let place : at + i - at ≡ i = omega arith in
    rw here (ap run place)

pow_bytes : (n : ℕ) → 256 ^ n ≡ 2 ^ (8 * n)
pow_bytes zero = refl
pow_bytes (suc n) =
    let one : suc n ≡ 1 + n = omega arith in
    let eight : 8 * suc n ≡ 8 + 8 * n = omega arith in
    ap (λ m. 256 ^ m) one ∙ (pow-add 256 1 n ∙ (ap (λ m. 256 * m) (pow_bytes n) ∙ (sym (pow-add 2 8 (8 * n)) ∙ ap (λ m. 2 ^ m) (sym eight))))

byte_shift : (i value : ℕ) → byte_at i value ≡ value / 2 ^ (8 * i) % 256
byte_shift zero value = let whole : value / 1 ≡ value = omega arith in ap (λ m. m % 256) (sym whole)
byte_shift (suc i) value = ap (λ m. value / m % 256) (pow_bytes (suc i))

-- the number of a number's bytes
number_of_bytes : (n at value : ℕ) (bytes : ℕ → ℕ) → ((i : ℕ) → i < n → bytes (at + i) ≡ value / 2 ^ (8 * i) % 256) →
    value < 2 ^ (8 * n) → number_from n bytes at ≡ value
unfolding number_from
number_of_bytes zero at value bytes each fits = omega arith
number_of_bytes (suc n) at value bytes each fits =
    let start : at + 0 ≡ at = omega arith in
    let first : bytes at ≡ value % 256 = ap bytes (sym start) ∙ (each 0 (omega arith) ∙ sym (byte_shift 0 value)) in
    let eight : 8 * suc n ≡ 8 * n + 8 = omega arith in
    let bound : value < 2 ^ (8 * n) * 2 ^ 8 = rw (← pow-add 2 (8 * n) 8, ← eight) fits in
    let behind : number_from n bytes (at + 1) ≡ value / 256 =
    number_of_bytes n (at + 1) (value / 256) bytes
    (λ i within.
    let place : at + 1 + i ≡ at + suc i = omega arith in
    let shift : 8 + 8 * i ≡ 8 * suc i = omega arith in
    ap bytes place ∙ (each (suc i) (omega arith) ∙ ap (λ m. m % 256) (ap (λ m. value / 2 ^ m) (sym shift) ∙ sym (shr-shr value 8 (8 * i)))))
    (omega arith) in
    rw (first, behind) (omega arith)

whole_bytes : (access : Access) → IsUnit access → 8 * (access.width / 8) ≡ access.width
whole_bytes access unit = omega (arith, unit.wide)

pub written_is_read : ReadsWhatWasWritten
written_is_read bytes access value unit fits =
    number_of_bytes (access.width / 8) access.address value (with_unit bytes access value access.space)
    (λ i within. run_here bytes access.space access.address (access.width / 8) (λ j. byte_at j value) i within ∙ byte_shift i value)
    (rw (whole_bytes access unit) fits)
