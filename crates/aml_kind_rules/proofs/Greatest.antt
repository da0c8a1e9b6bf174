-- How great integers can become.
use Rattle.std.proofs.Common.{◌≡◌, ℕ, zero, suc, ◌-◌, ◌*◌, ◌/◌, ◌^◌, ◌<◌, ◌≤◌, Result, Some, refl, sym, ap, ◌∙◌, inl, inr, arith, lit<}
use Rattle.std.specs.Prelude.{if◌then◌else◌, min}
use Rattle.std.proofs.lemmas.Bool.{lt-ltb}
use Rattle.std.proofs.lemmas.Bool.Decides.{leb_tells}
use Rattle.std.proofs.Math.Nat.{pow-le-pow_right, mul-le-mul_right}
use Rattle.aml_judged.specs.Known.{greatest}
use Rattle.aml_judged.specs.Causes as cause
use Rattle.aml_judged.specs.Causes.{Refusal}
use Rattle.aml_judged.specs.Judged.{refuses}
use Rattle.aml_judged.specs.KindRules.{applied, capped, inside, quotient_most}
use Rattle.aml_kinds.specs.Kinds.{Kind}
use Rattle.aml_meaning.specs.Rules.{Place}
use Rattle.aml_meaning.specs.declared.action.Arithmetic.TheVariants as operation
use Rattle.aml_objects.specs.Widths.{bits_of}
use Rattle.aml_objects.specs.declared.width.Width.{Width}
use Rattle.aml_objects.specs.declared.width.Width.TheVariants.{Bits32, Bits64}

-- what lies beyond 64 bits lies beyond each width
pub greatest_below : (w : Width) → greatest (bits_of w) < 2 ^ 64
greatest_below Bits32 = lit< tt
greatest_below Bits64 = lit< tt

past : (width n : ℕ) → greatest width < n → capped width n ≡ greatest width
past width n lt = elim (leb_tells n (greatest width)) [
  | inl p ↦ absurd (omega (arith, p.1))
  | inr p ↦ ap (λ b. if b then n else greatest width) p.0
]

pub capped_past : (w : Width) (n : ℕ) → 2 ^ 64 ≤ n → capped (bits_of w) n ≡ greatest (bits_of w)
capped_past w n le = past (bits_of w) n (let below : greatest (bits_of w) < 2 ^ 64 = greatest_below w in omega (arith, below, le))

pub capped_is : (width n : ℕ) → min n (greatest width) ≡ capped width n
capped_is width n = elim (leb_tells n (greatest width)) [
  | inl p ↦ (let le : n ≤ greatest width = p.1 in let e : min n (greatest width) ≡ n = omega arith in e) ∙ sym (ap (λ b. if b then n else greatest width) p.0)
  | inr p ↦ (let lt : greatest width < n = p.1 in let e : min n (greatest width) ≡ greatest width = omega arith in e) ∙ sym (ap (λ b. if b then n else greatest width) p.0)
]

-- a number that is not zero is one more than another
pub divided_by : (a n : ℕ) → 0 < n → quotient_most a (Some n) ≡ a / n
divided_by a zero lt = absurd (omega (arith, lt))
divided_by a (suc n) lt = refl

pub left_by : (width a b n : ℕ) → 0 < n → applied width operation.Mod a b (Some n) ≡ min a (n - 1)
left_by width a b zero lt = absurd (omega (arith, lt))
left_by width a b (suc n) lt = let e : suc n - 1 ≡ n = omega arith in ap (min a) (sym e)

-- what goes 64 places up lies beyond 64 bits, unless it is zero
pub risen : (a count : ℕ) → (a ≡ 0 → ⊥) → 64 ≤ count → 2 ^ 64 ≤ a * 2 ^ count
risen a count some le =
    let most : 2 ^ 64 ≤ 2 ^ count = pow-le-pow_right (lit< tt) le in
    let one : 1 ≤ a = omega (arith, some) in
    let times : 1 * 2 ^ count ≤ a * 2 ^ count = mul-le-mul_right (2 ^ count) one in
    omega (arith, most, times)

-- an index below the length
pub below_inside : (op : Place) (a n : ℕ) (k : Result Kind Refusal) → a < n → k ≡ inside op a n k
below_inside op a n k lt = sym (ap (λ b. if b then k else refuses cause.Index op) (lt-ltb a n lt))
