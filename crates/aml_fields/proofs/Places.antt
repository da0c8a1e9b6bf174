-- Where a field's bits lie in its units.
use Rattle.std.proofs.Common.{◌≡◌, ℕ, ◌+◌, ◌-◌, ◌*◌, ◌/◌, ◌%◌, ◌^◌, ◌<◌, ◌≤◌, min, ◌⊎◌, inl, inr, refl, ap, ◌∙◌, subst, arith}
use Rattle.std.proofs.lemmas.Nat.{div_below, mod-mul-add, mod_below, mul-le, shl_below}
use Rattle.std.proofs.Math.Nat.{add-mul, lt-div-mul-add, lt_of_lt_of_le, pow-le-pow_right}
use Rattle.aml_regions.specs.Worlds.{IsUnit}
use Rattle.aml_regions.specs.declared.field.FieldLayout.{FieldLayout}
use Rattle.aml_regions.specs.declared.field.RegionField.{RegionField}
use Rattle.aml_regions.specs.declared.field.UnitWidth.{UnitWidth}
use Rattle.aml_regions.specs.declared.field.UnitWidth.TheVariants.{Byte, Word, DWord, QWord}
use Rattle.aml_regions.specs.Fields.{IsLaidOut, IsSound, access, bits_of, first, end}

-- unit u of width a has a bit of the field at `at` of n bits
pub record IsTouched (a at n u : ℕ) : Type 0 where
  pub wide : 0 < a
  pub bits : 0 < n
  pub low : at < u * a + a
  pub high : u * a < at + n

pub touched : (a at n u : ℕ) → 0 < a → 0 < n → at / a ≤ u → u < (at + n - 1) / a + 1 → IsTouched a at n u
touched a at n u wide some low high =
    let l = mul-le (at / a) a u a low (omega arith) in
    let h = mul-le u a ((at + n - 1) / a) a (omega arith) (omega arith) in
    let split_low : a * (at / a) + at % a ≡ at = omega arith in
    let split_high : a * ((at + n - 1) / a) + (at + n - 1) % a ≡ at + n - 1 = omega arith in
    let rest = mod_below at a wide in
    record { wide = wide; bits = some; low = omega arith; high = omega arith }

pub bits_some : (w : UnitWidth) → 0 < bits_of w
bits_some Byte = omega arith
bits_some Word = omega arith
bits_some DWord = omega arith
bits_some QWord = omega arith

pub bits_most : (w : UnitWidth) → bits_of w ≤ 64
bits_most Byte = omega arith
bits_most Word = omega arith
bits_most DWord = omega arith
bits_most QWord = omega arith

pub touched_unit : (f : FieldLayout) (u : ℕ) → IsLaidOut f → first f ≤ u → u < end f → IsTouched (bits_of f.width) f.at f.bits u
unfolding first end
touched_unit f u sound low high = touched (bits_of f.width) f.at f.bits u (bits_some f.width) sound.some low high

-- done of the field's bits stand before unit u, where take of them stand behind skip others
pub record Places (a at n u done skip take : ℕ) : Type 0 where
  pub before : done ≡ u * a - at
  pub place : at + done ≡ u * a + skip
  pub inside : skip < a
  pub fits : skip + take ≤ a
  pub some : 0 < take
  pub within : done + take ≤ n
  pub next : done + take ≡ min n ((u + 1) * a - at)
  pub below : (i : ℕ) → i < done → at + i < u * a
  pub last : take ≡ min (a - skip) (n - done)

pub places : (a at n u done skip take : ℕ) → IsTouched a at n u → done ≡ min n (u * a - at) → skip ≡ (at + done) % a → take ≡ min (a - skip) (n - done) → Places a at n u done skip take
places a at n u done skip take t before is_skip is_take =
    let b : done ≡ u * a - at = omega (arith, t.high, t.wide) in
    let r = at + done - u * a in
    let is : at + done ≡ u * a + r = omega (arith, t.low) in
    let lt : r < a = omega (arith, t.low, t.wide) in
    let skip_is : skip ≡ r = is_skip ∙ ap (λ p. p % a) is ∙ mod-mul-add u a r lt in
    record {
      before = b;
      place = omega arith;
      inside = omega arith;
      fits = omega arith;
      some = omega (arith, t.high, t.bits);
      within = omega (arith, t.high);
      next = omega (arith, t.high, t.low);
      below = λ i h. omega arith;
      last = is_take;
    }

pub places_in : (f : FieldLayout) (width unit done take : ℕ) → IsLaidOut f → width ≡ bits_of f.width → first f ≤ unit → unit < end f → done ≡ min f.bits (unit * bits_of f.width - f.at) → take ≡ min (width - (f.at + done) % width) (f.bits - done) → Places (bits_of f.width) f.at f.bits unit done ((f.at + done) % width) take
places_in f width unit done take sound is low high before is_take =
    places (bits_of f.width) f.at f.bits unit done _ take (touched_unit f unit sound low high) before (ap (λ w. (f.at + done) % w) is) (subst (λ w. take ≡ min (w - (f.at + done) % width) (f.bits - done)) is is_take)

-- a run of bits above others fits 64 bits
pub above_fits : (x take done n : ℕ) → x < 2 ^ take → done + take ≤ n → n ≤ 64 → x * 2 ^ done < 2 ^ 64
above_fits x take done n lt within short =
    let le : take + done ≤ 64 = omega arith in
    lt_of_lt_of_le (shl_below x take done lt) (pow-le-pow_right (omega arith) le)

eighth : (w : UnitWidth) → (bits_of w ≡ 8) ⊎ (bits_of w ≡ 16) ⊎ (bits_of w ≡ 32) ⊎ (bits_of w ≡ 64)
eighth Byte = inl refl
eighth Word = inr (inl refl)
eighth DWord = inr (inr (inl refl))
eighth QWord = inr (inr (inr refl))

pub is_unit : (r : RegionField) (u : ℕ) → IsSound r → u < end r.layout → IsUnit (access r u)
unfolding access
is_unit r u sound high =
    let f = r.layout in
    let more = mul-le (u + 1) (bits_of f.width / 8) (end f) (bits_of f.width / 8) (omega arith) (omega arith) in
    record { wide = eighth f.width; ends = omega (arith, sound.units, sound.region) }

pub first_below : (f : FieldLayout) (u i : ℕ) → f.at + i < u * bits_of f.width → first f < u
unfolding first
first_below f u i lt = div_below f.at (bits_of f.width) u (bits_some f.width) (omega arith)

-- nothing stands before the first unit
pub first_before : (f : FieldLayout) (u : ℕ) → u ≡ first f → 0 ≡ min f.bits (u * bits_of f.width - f.at)
unfolding first
first_before f u e =
    let wide = bits_some f.width in
    let split : bits_of f.width * (f.at / bits_of f.width) + f.at % bits_of f.width ≡ f.at = omega arith in
    rw e (omega arith)

-- all stand before the unit behind the last
pub done_all : (f : FieldLayout) (u : ℕ) → IsLaidOut f → end f ≤ u → min f.bits (u * bits_of f.width - f.at) ≡ f.bits
unfolding end
done_all f u sound low =
    let wide = bits_some f.width in
    let some = sound.some in
    let last = (f.at + f.bits - 1) / bits_of f.width in
    let more = mul-le (last + 1) (bits_of f.width) u (bits_of f.width) low (omega arith) in
    let split : bits_of f.width * last + (f.at + f.bits - 1) % bits_of f.width ≡ f.at + f.bits - 1 = omega arith in
    let rest = mod_below (f.at + f.bits - 1) (bits_of f.width) wide in
    omega arith

pub first_end : (f : FieldLayout) → IsLaidOut f → first f < end f
unfolding first end
first_end f sound =
    let wide = bits_some f.width in
    let some = sound.some in
    let last = (f.at + f.bits - 1) / bits_of f.width in
    let split : bits_of f.width * last + (f.at + f.bits - 1) % bits_of f.width ≡ f.at + f.bits - 1 = omega arith in
    let rest = mod_below (f.at + f.bits - 1) (bits_of f.width) wide in
    div_below f.at (bits_of f.width) (last + 1) wide (omega arith)

unit_eighth : (w : UnitWidth) (u n : ℕ) → u * bits_of w < n → u * 8 < n
unit_eighth Byte u n lt = lt
unit_eighth Word u n lt = omega (arith, lt)
unit_eighth DWord u n lt = omega (arith, lt)
unit_eighth QWord u n lt = omega (arith, lt)

-- units have far smaller numbers than bits
pub unit_small : (f : FieldLayout) (u : ℕ) → IsLaidOut f → first f ≤ u → u < end f → u * 8 < 2 ^ 64
unit_small f u sound low high =
    let t = touched_unit f u sound low high in
    let lt = unit_eighth f.width u (f.at + f.bits) t.high in
    omega (arith, lt, sound.bits)

-- each unit has a bit of the field
pub count_most : (f : FieldLayout) → IsLaidOut f → end f - first f ≤ f.bits
unfolding first end
count_most f sound =
    let a = bits_of f.width in
    let wide = bits_some f.width in
    let some = sound.some in
    let q = f.at / a in
    let m = f.bits - 1 in
    let n : f.bits ≡ m + 1 = omega (arith, some) in
    let below : f.at < q * a + a = lt-div-mul-add wide in
    let all : (q + f.bits) * a ≡ q * a + f.bits * a = add-mul q f.bits a in
    let more : f.bits * a ≡ m * a + 1 * a = ap (λ x. x * a) n ∙ add-mul m 1 a in
    let least : m * 1 ≤ m * a = mul-le m 1 m a (omega arith) wide in
    let last : (f.at + f.bits - 1) / a < q + f.bits = div_below (f.at + f.bits - 1) a (q + f.bits) wide (omega (arith, below, all, more, least, n)) in
    omega (arith, last)
