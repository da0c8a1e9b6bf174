-- Bytes that a field's bits are put into, a run at a time.
use Rattle.std.proofs.Common.{◌≡◌, ℕ, zero, suc, ◌+◌, ◌-◌, ◌*◌, ◌^◌, ◌<◌, ◌≤◌, Bool, true, false, length, replicate, map, ⊎_elim, refl, sym, ap, ◌∙◌, arith}
use Rattle.std.proofs.lemmas.Bool.{cases_lt}
use Rattle.std.proofs.lemmas.Bool.Decides.{nat_tests}
use Rattle.std.proofs.lemmas.List.{length-replicate, get_or-replicate}
use Rattle.std.proofs.lemmas.List.FromFn.{fill_by_all, length-map-range_with_len, get_or-map-range_with_len}
use Rattle.std.specs.Prelude.{nat_lt, if◌then◌else◌}
use Rattle.std.specs.List.{range_with_len}
use Rattle.std.specs.Int.{bit_at}
use Rattle.aml_regions.specs.Bits.{number}
use Rattle.aml_fields.proofs.Numbers.{number-add, number_same, bit_at-number}
use Rattle.aml_regions.specs.Fields.{has, mixed}
use Rattle.aml_regions.specs.BufferFields.{bytes_of, in_bytes, stored}
use Rattle.aml_fields.proofs.Tests.{below_lt, past_lt, within_lt}

-- a bit that is there so far
abbrev pub so_far : ℕ → (ℕ → ℕ) → ℕ → ℕ
so_far n bit p = if nat_lt p n then bit p else 0

so_far_in : (n : ℕ) (bit : ℕ → ℕ) (p : ℕ) → p < n → so_far n bit p ≡ bit p
so_far_in n bit p lt = let t : nat_lt p n ≡ true = grind (arith, nat_tests) in ap (λ b. if b then bit p else 0) t

so_far_out : (n : ℕ) (bit : ℕ → ℕ) (p : ℕ) → n ≤ p → so_far n bit p ≡ 0
so_far_out n bit p le = let t : nat_lt p n ≡ false = grind (arith, nat_tests) in ap (λ b. if b then bit p else 0) t

picked_lt : (b : Bool) (x : ℕ) → x < 2 → (if b then x else 0) < 2
picked_lt true x lt = lt
picked_lt false x lt = omega arith

so_far_lt : (n : ℕ) (bit : ℕ → ℕ) (p : ℕ) → ((i : ℕ) → bit i < 2) → so_far n bit p < 2
so_far_lt n bit p h = picked_lt (nat_lt p n) (bit p) (h p)

-- one byte: the run put into the bits so far gives more of them
module _ (done take : ℕ) (b c : ℕ → ℕ) (two_b : (i : ℕ) → b i < 2) (two_c : (i : ℕ) → c i < 2) (same : (i : ℕ) → i < done → c i ≡ b i) (m : ℕ) where
  bit_more : (i : ℕ) → i < 8 → (if has (in_bytes done take) (m * 8 + i) then bit_at (number take (λ j. c (done + j))) (m * 8 + i - done) else bit_at (number 8 (λ j. so_far done b (m * 8 + j))) i) ≡ so_far (done + take) c (m * 8 + i)
  bit_more i lt =
      let p = m * 8 + i in
      let pick = λ (h : Bool). if h then bit_at (number take (λ j. c (done + j))) (p - done) else bit_at (number 8 (λ j. so_far done b (m * 8 + j))) i in
      let kept : bit_at (number 8 (λ j. so_far done b (m * 8 + j))) i ≡ so_far done b p = bit_at-number 8 i _ (λ j. so_far_lt done b (m * 8 + j) two_b) lt in
      ⊎_elim
      (λ (low : p < done). ap pick (below_lt done p _ _ low) ∙ kept ∙ so_far_in done b p low ∙ sym (same p low) ∙ sym (so_far_in (done + take) c p (omega arith)))
      (λ (high : done ≤ p). ⊎_elim
      (λ (inside : p < done + take).
      let at : done + (p - done) ≡ p = omega arith in
      ap pick (within_lt done p _ _ high inside) ∙ bit_at-number take (p - done) (λ j. c (done + j)) (λ j. two_c _) (omega arith) ∙ ap c at ∙ sym (so_far_in (done + take) c p inside))
      (λ (past : done + take ≤ p). ap pick (past_lt done p _ _ past) ∙ kept ∙ so_far_out done b p high ∙ sym (so_far_out (done + take) c p past))
      (cases_lt p (done + take)))
      (cases_lt p done)

  byte_more : mixed (in_bytes done take) (bit_at (number take (λ j. c (done + j)))) m (number 8 (λ j. so_far done b (m * 8 + j))) ≡ number 8 (λ j. so_far (done + take) c (m * 8 + j))
  unfolding mixed
  byte_more = number_same 8 _ _ (λ i lt. bit_more i lt)

-- all bytes
pub stored_more : (size done take : ℕ) (b c : ℕ → ℕ) → ((i : ℕ) → b i < 2) → ((i : ℕ) → c i < 2) → ((i : ℕ) → i < done → c i ≡ b i) → stored done take (bit_at (number take (λ j. c (done + j)))) (bytes_of size done b) ≡ bytes_of size (done + take) c
unfolding stored bytes_of
stored_more size done take b c two_b two_c same =
    let one = λ (n : ℕ) (x : ℕ → ℕ) (m : ℕ). number 8 (λ j. so_far n x (m * 8 + j)) in
    let old = map (one done b) (range_with_len 0 size) in
    let len : length old ≡ size = length-map-range_with_len (one done b) 0 size in
    fill_by_all (one (done + take) c) _ size 0 (length-map-range_with_len _ 0 (length old) ∙ len)
    (λ k lt. get_or-map-range_with_len _ 0 (length old) k k 0 (rw len lt) (omega arith)
    ∙ ap (mixed (in_bytes done take) (bit_at (number take (λ j. c (done + j)))) k) (get_or-map-range_with_len (one done b) 0 size k k 0 lt (omega arith))
    ∙ byte_more done take b c two_b two_c same k)

zero_number : (n : ℕ) (x : ℕ → ℕ) → ((i : ℕ) → x i ≡ 0) → number n x ≡ 0
unfolding number
zero_number zero x h = refl
zero_number (suc n) x h = let t = h n in let l = zero_number n x h in rw (t, l) (omega arith)

zero_number_of : (x : ℕ → ℕ) → number 0 x ≡ 0
unfolding number
zero_number_of x = refl

-- before the first bit there are zeros
pub bytes_none : (size : ℕ) (b : ℕ → ℕ) → replicate size 0 ≡ bytes_of size 0 b
unfolding bytes_of
bytes_none size b = fill_by_all _ (replicate size 0) size 0 (length-replicate size 0) (λ k lt. get_or-replicate size k 0 0 lt ∙ sym (zero_number 8 _ (λ i. so_far_out 0 b (k * 8 + i) (omega arith))))

-- a byte of the bits that are there: those that it has, and zeros behind them
pub byte_so_far : (n take m : ℕ) (f : ℕ → ℕ) → take ≤ 8 → m * 8 + take ≤ n → (take < 8 → n ≤ m * 8 + take) → number take (λ i. f (m * 8 + i)) ≡ number 8 (λ i. so_far n f (m * 8 + i))
byte_so_far n take m f most within last =
    let g = λ (i : ℕ). so_far n f (m * 8 + i) in
    let e : take + (8 - take) ≡ 8 = omega arith in
    let past : number (8 - take) (λ i. g (take + i)) ≡ 0 = ⊎_elim
    (λ (some : take < 8). let l = last some in zero_number (8 - take) _ (λ i. so_far_out n f (m * 8 + (take + i)) (omega (arith, l))))
    (λ (all : 8 ≤ take). let z : 8 - take ≡ 0 = omega arith in rw z (zero_number_of (λ i. g (take + i))))
    (cases_lt take 8) in
    let low : number take (λ i. f (m * 8 + i)) ≡ number take g = number_same take _ _ (λ i lt. sym (so_far_in n f (m * 8 + i) (omega arith))) in
    let whole : number (take + (8 - take)) g ≡ number (8 - take) (λ i. g (take + i)) * 2 ^ take + number take g = number-add take (8 - take) g in
    let none : 0 * 2 ^ take + number take g ≡ number take g = omega arith in
    low ∙ sym (ap (λ k. number k g) (sym e) ∙ whole ∙ ap (λ x. x * 2 ^ take + number take g) past ∙ none)
