-- What operators give is of the kinds that the rules say.
use Rattle.std.proofs.Common.{◌≡◌, ℕ, zero, suc, ◌+◌, ◌-◌, ◌*◌, ◌/◌, ◌%◌, ◌^◌, ◌≤◌, ◌<◌, List, [], ◌∷◌, ◌++◌, length, Option, Some, None, Result, Ok, Err, refl, sym, ap, w64, ◌∙◌, subst, arith, max, min}
use Rattle.std.specs.Prelude.{Bool, true, false, ◌==◌, if◌then◌else◌, nat_le, nat_lt, take, slice_get, bit_and, bit_or, bit_xor}
use Rattle.std.specs.Int.{bit_at}
use Rattle.std.specs.Int.{bytes_low_first}
use Rattle.std.specs.Int.Count.{count_leading_zeros, count_trailing_zeros, leading_of_zero, leading_top}
use Rattle.std.proofs.lemmas.Bool.{leb-true, ltb-true, eqb-true, and_parts}
use Rattle.std.proofs.lemmas.Bool.Decides.{nat_tests}
use Rattle.std.proofs.lemmas.Nat.{pow_pos, pow-add, mul-le, le-div, or_lt, xor_lt, and_le_l, and_le_r}
use Rattle.std.proofs.lemmas.Nat.Bits.{bit_at_above, bit_at-trailing_zeros}
use Rattle.std.proofs.Math.Nat.{mod-lt, mod-le, pow-le-pow_right, div-le_self, div-mul-le_self}
use Rattle.aml_values.specs.Values.{Value, Int, Buf, Str, Pkg, Elements, Element, Holds, Named, Unset, count}
use Rattle.aml_values.specs.Values as elements
use Rattle.aml_kinds.specs.Kinds.{Kind, IntUpTo, BufOf, StrOf, PkgOf, AnyPkg, Mixed, Shape, bare, with, places, ElementKind, ValueOf, AnyName, Anything}
use Rattle.aml_kinds.specs.Fits.{fits_shape, fits_place}
use Rattle.aml_kinds.specs.Joins.{join_elements}
use Rattle.aml_meaning.specs.declared.error.AmlCause.TheVariants as why
use Rattle.aml_meaning.specs.declared.error.AmlError.{AmlError}
use Rattle.aml_meaning.specs.declared.action.Arithmetic.{Arithmetic}
use Rattle.aml_meaning.specs.declared.action.Arithmetic.TheVariants as arithmetic
use Rattle.aml_meaning.specs.declared.action.Bitwise.{Bitwise}
use Rattle.aml_meaning.specs.declared.action.Bitwise.TheVariants as bitwise
use Rattle.aml_meaning.specs.declared.action.Comparison.{Comparison}
use Rattle.aml_meaning.specs.declared.action.Comparison.TheVariants as comparison
use Rattle.aml_meaning.specs.declared.action.Conversion.{Conversion}
use Rattle.aml_meaning.specs.declared.action.Conversion.TheVariants as conversion
use Rattle.aml_meaning.specs.State.{State}
use Rattle.aml_meaning.specs.Rules as rules
use Rattle.aml_meaning.specs.Rules.{Place, Division, integer, second, combined, transform, transformed, compared, equal, negated, divided, truth, wrapped, apply, holds}
use Rattle.aml_meaning.specs.Buffers.{most_bytes, limited, concatenated, size_of}
use Rattle.aml_meaning.specs.Conversions.{bytes_integer, first_integer, converted}
use Rattle.aml_meaning.specs.Elements.{element_numbered, byte_read, element_read, element_at}
use Rattle.aml_meaning.specs.Interfaces.{answered}
use Rattle.aml_judged.specs.Causes as causes
use Rattle.aml_judged.specs.Causes.{Refusal}
use Rattle.aml_judged.specs.Known.{greatest}
use Rattle.aml_judged.specs.Judged.{refuses, then_rule}
use Rattle.aml_judged.specs.KindRules.{capped, applied, integer_kind, divisor_kind, second_kind, combined_kind, transformed_most, transformed_kind, DivisionKinds, quotient_most, divided_kind, equal_kind, compared_kind, negated_kind, buffer_most, buffer_integer, converted_kind, limited_kind, concatenated_kind, size_kind, interface_kind, place_numbered, joined_with, joined_places, place_led, element_read_kind, inside, led_kind}
use Rattle.aml_judged.specs.Safe.{AreBytes, AreWords, IsWordElement, IsOf}
use Rattle.aml_judged.proofs.Fits.{in_range, in_greatest, join_left, join_right}

-- what is said of a value and its kind, and not of the state
abbrev pub plain : {V K : Type 0} → (V → K → Type 0) → V → K → State → Type 0
plain R = λ v k s. R v k

-- a rule of values follows a rule of kinds
abbrev pub Follows : {V K : Type 0} → (V → K → Type 0) → Result K Refusal → Result V AmlError → Type 0
Follows P (Err e) r = Unit {0}
Follows P (Ok k) (Ok v) = P v k
Follows P (Ok k) (Err e) = ⊥

pub then_follows : {J K V W : Type 0} (P : V → J → Type 0) (Q : W → K → Type 0) (rk : Result J Refusal) (rv : Result V AmlError) (f : J → Result K Refusal) (g : V → Result W AmlError) → Follows P rk rv → ((j : J) (v : V) → P v j → Follows Q (f j) (g v)) → Follows Q (then_rule rk f) (rules.◌>>=◌ rv g)
then_follows P Q (Err e) rv f g h next = tt
then_follows P Q (Ok j) (Ok v) f g h next = next j v h
then_follows P Q (Ok j) (Err e) f g h next = absurd h

module _ (width : ℕ) where
  abbrev Is : Value → Kind → Type 0
  Is = IsOf width

  pub record IsBelow (n max : ℕ) : Type 0 where
    pub below : nat_le n max ≡ true
    pub word : n < 2 ^ width

  pub integer_follows : (p q : Place) (k : Kind) (v : Value) → Is v k → Follows IsBelow (integer_kind p k) (integer q v)
  integer_follows p q (IntUpTo a) (Int n) h = record { below = h.fit; word = h.word }
  integer_follows p q (IntUpTo a) (Buf xs) h = absurd (let bad : false ≡ true = h.fit in cc)
  integer_follows p q (IntUpTo a) (Str xs) h = absurd (let bad : false ≡ true = h.fit in cc)
  integer_follows p q (IntUpTo a) (Pkg xs) h = absurd (let bad : false ≡ true = h.fit in cc)
  integer_follows p q (BufOf a) v h = tt
  integer_follows p q (StrOf a) v h = tt
  integer_follows p q (PkgOf a) v h = tt
  integer_follows p q AnyPkg v h = tt
  integer_follows p q Mixed v h = tt

  -- what is said of an operand that may be a literal
  abbrev pub IsNumber : Option ℕ → Value → Type 0
  IsNumber (Some n) v = v ≡ Int n
  IsNumber None v = Unit {0}

  -- a second operand, and of Mod that it is a literal that is not zero
  pub record IsSecond (f : Arithmetic) (o : Option ℕ) (n max : ℕ) : Type 0 where
    pub below : IsBelow n max
    pub is_number : IsNumber o (Int n)

  integer_is : (p q : Place) (k : Kind) (v : Value) (o : Option ℕ) (f : Arithmetic) → Is v k → IsNumber o v → Follows (IsSecond f o) (integer_kind p k) (integer q v)
  integer_is p q (IntUpTo a) (Int n) o f h g = record { below = record { below = h.fit; word = h.word }; is_number = g }
  integer_is p q (IntUpTo a) (Buf xs) o f h g = absurd (let bad : false ≡ true = h.fit in cc)
  integer_is p q (IntUpTo a) (Str xs) o f h g = absurd (let bad : false ≡ true = h.fit in cc)
  integer_is p q (IntUpTo a) (Pkg xs) o f h g = absurd (let bad : false ≡ true = h.fit in cc)
  integer_is p q (BufOf a) v o f h g = tt
  integer_is p q (StrOf a) v o f h g = tt
  integer_is p q (PkgOf a) v o f h g = tt
  integer_is p q AnyPkg v o f h g = tt
  integer_is p q Mixed v o f h g = tt

  divisor_follows : (p q : Place) (o : Option ℕ) (a n : ℕ) → IsSecond arithmetic.Mod o n a → Follows (IsSecond arithmetic.Mod o) (divisor_kind p o a) (if n == 0 then rules.fails why.Divisor q else Ok n)
  divisor_follows p q (Some (suc c)) a n h = choice (n == 0) refl
    where
      choice : (b : Bool) → (n == 0) ≡ b → Follows (IsSecond arithmetic.Mod (Some (suc c))) (divisor_kind p (Some (suc c)) a) (if b then rules.fails why.Divisor q else Ok n)
      choice true e = absurd (let z : n ≡ 0 = eqb-true n 0 e in let k : Int n ≡ Int (suc c) = h.is_number in let same : n ≡ suc c = cc in omega (arith, z, same))
      choice false e = h
  divisor_follows p q (Some zero) a n h = tt
  divisor_follows p q None a n h = tt

  second_follows : (f : Arithmetic) (p q : Place) (k : Kind) (v : Value) (o : Option ℕ) → Is v k → IsNumber o v → Follows (IsSecond f o) (second_kind f p k o) (second f q v)
  second_follows arithmetic.Mod p q k v o h g = then_follows (IsSecond arithmetic.Mod o) (IsSecond arithmetic.Mod o) (integer_kind p k) (integer q v) _ _ (integer_is p q k v o arithmetic.Mod h g) (λ a n hn. divisor_follows p q o a n hn)
  second_follows f p q k v o h g = integer_is p q k v o f h g

  pub le_test : (m n : ℕ) → m ≤ n → nat_le m n ≡ true
  le_test m n h = grind (arith, nat_tests)

  -- what is at most a number is at most that number, or the greatest integer
  under : (n m : ℕ) (t : Bool) → n ≤ m → nat_le (n % 2 ^ width) (if t then m else greatest width) ≡ true
  under n m true le = let less = mod-le n (2 ^ width) in le_test _ _ (omega (arith, less, le))
  under n m false le = in_greatest width _ (in_range width n)

  capped_fits : (n m : ℕ) → n ≤ m → Is (wrapped width n) (IntUpTo (capped width m))
  capped_fits n m le = record { fit = under n m (nat_le m (greatest width)) le; word = in_range width n }

  -- so many bits hold a number
  bits_cover : (m : ℕ) → m < 2 ^ 64 → m < 2 ^ (64 - count_leading_zeros 64 m)
  bits_cover zero lt = pow_pos (64 - count_leading_zeros 64 0)
  bits_cover (suc m) lt =
      let top = leading_top 64 (suc m) (omega arith) lt in
      let e : 64 - count_leading_zeros 64 (suc m) ≡ suc top.0 = (let f = top.1 in omega (arith, f)) in
      rw e top.3

  ones_fit : (z m : ℕ) (t : Bool) → nat_le m (greatest width) ≡ t → width ≤ 64 → ((k : ℕ) → m < 2 ^ k → z < 2 ^ k) → nat_le (z % 2 ^ width) (if t then 2 ^ (64 - count_leading_zeros 64 m) - 1 else greatest width) ≡ true
  ones_fit z m true e narrow h =
      let wide : 2 ^ width ≤ 2 ^ 64 = pow-le-pow_right {n = 2} (omega arith) narrow in
      let some = pow_pos width in
      let le : m ≤ 2 ^ width - 1 = leb-true m (greatest width) e in
      let below = h (64 - count_leading_zeros 64 m) (bits_cover m (omega (arith, wide, some, le))) in
      let less = mod-le z (2 ^ width) in
      le_test _ _ (omega (arith, below, less))
  ones_fit z m false e narrow h = in_greatest width _ (in_range width z)

  divided_le : (x a k : ℕ) → 0 < k → x ≤ a → x / k ≤ a / k
  divided_le x a k pos le = le-div (x / k) a k pos (let back = div-mul-le_self x k in omega (arith, le, back))

  mod_fits : (a x y : ℕ) (o : Option ℕ) (b : ℕ) → IsBelow x a → IsNumber o (Int y) → nat_le ((x % y) % 2 ^ width) (applied width arithmetic.Mod a b o) ≡ true
  mod_fits a x y (Some (suc c)) b h e =
      let same : y ≡ suc c = (let f : Int y ≡ Int (suc c) = e in cc) in
      let le : x ≤ a = leb-true x a h.below in
      let first = mod-le (x % y) (2 ^ width) in
      let second_le : x % y ≤ x = mod-le x y in
      let third : x % y < suc c = subst (λ n. x % n < suc c) (sym same) (mod-lt x (omega arith)) in
      le_test _ _ (omega (arith, le, first, second_le, third))
  mod_fits a x y (Some zero) b h e = in_greatest width _ (in_range width (x % y))
  mod_fits a x y None b h e = in_greatest width _ (in_range width (x % y))

  shift_left_fits : (a b x y : ℕ) (o : Option ℕ) → x ≤ a → IsNumber o (Int y) → Is (wrapped width (x * 2 ^ y)) (IntUpTo (applied width arithmetic.ShiftLeft a b o))
  shift_left_fits a b x y (Some c) le e =
      let same : y ≡ c = (let f : Int y ≡ Int c = e in cc) in
      let one : 2 ^ c ≤ 2 ^ c = omega arith in
      capped_fits (x * 2 ^ y) (a * 2 ^ c) (subst (λ n. x * 2 ^ n ≤ a * 2 ^ c) (sym same) (mul-le x (2 ^ c) a (2 ^ c) le one))
  shift_left_fits a b x y None le e = record { fit = in_greatest width _ (in_range width (x * 2 ^ y)); word = in_range width (x * 2 ^ y) }

  shift_right_le : (a b x y : ℕ) (o : Option ℕ) → x ≤ a → IsNumber o (Int y) → x / 2 ^ y ≤ applied width arithmetic.ShiftRight a b o
  shift_right_le a b x y (Some c) le e = let same : y ≡ c = (let f : Int y ≡ Int c = e in cc) in subst (λ n. x / 2 ^ n ≤ a / 2 ^ c) (sym same) (divided_le x a (2 ^ c) (pow_pos c) le)
  shift_right_le a b x y None le e = let less = div-le_self x (2 ^ y) in omega (arith, le, less)

  apply_fits : (f : Arithmetic) (a b x y : ℕ) (o : Option ℕ) → width ≤ 64 → IsBelow x a → IsSecond f o y b → Is (wrapped width (apply f x y)) (IntUpTo (applied width f a b o))
  apply_fits arithmetic.Add a b x y o narrow h g = let le = leb-true x a h.below in let ge = leb-true y b g.below.below in capped_fits (x + y) (a + b) (omega (arith, le, ge))
  apply_fits arithmetic.Multiply a b x y o narrow h g = capped_fits (x * y) (a * b) (mul-le x y a b (leb-true x a h.below) (leb-true y b g.below.below))
  apply_fits arithmetic.And a b x y o narrow h g =
      let le = leb-true x a h.below in
      let ge = leb-true y b g.below.below in
      let one = and_le_l x y in
      let two = and_le_r x y in
      let less = mod-le (bit_and x y) (2 ^ width) in
      record { fit = le_test _ _ (omega (arith, le, ge, one, two, less)); word = in_range width (bit_and x y) }
  apply_fits arithmetic.Or a b x y o narrow h g =
      let le = leb-true x a h.below in
      let ge = leb-true y b g.below.below in
      record { fit = ones_fit (bit_or x y) (max a b) (nat_le (max a b) (greatest width)) refl narrow (λ k lt. or_lt k x y (omega (arith, le, lt)) (omega (arith, ge, lt))); word = in_range width (bit_or x y) }
  apply_fits arithmetic.Xor a b x y o narrow h g =
      let le = leb-true x a h.below in
      let ge = leb-true y b g.below.below in
      record { fit = ones_fit (bit_xor x y) (max a b) (nat_le (max a b) (greatest width)) refl narrow (λ k lt. xor_lt k x y (omega (arith, le, lt)) (omega (arith, ge, lt))); word = in_range width (bit_xor x y) }
  apply_fits arithmetic.ShiftLeft a b x y o narrow h g = shift_left_fits a b x y o (leb-true x a h.below) g.is_number
  apply_fits arithmetic.ShiftRight a b x y o narrow h g =
      let most = shift_right_le a b x y o (leb-true x a h.below) g.is_number in
      let less = mod-le (x / 2 ^ y) (2 ^ width) in
      record { fit = le_test _ _ (omega (arith, most, less)); word = in_range width (x / 2 ^ y) }
  apply_fits arithmetic.Mod a b x y o narrow h g = record { fit = mod_fits a x y o b h g.is_number; word = in_range width (x % y) }
  apply_fits f a b x y o narrow h g = record { fit = in_greatest width _ (in_range width (apply f x y)); word = in_range width (apply f x y) }

  pub combined_follows : (f : Arithmetic) (p q r t : Place) (j k : Kind) (v u : Value) (o : Option ℕ) → width ≤ 64 → Is v j → Is u k → IsNumber o u → Follows Is (combined_kind width f p j q k o) (combined width f r v t u)
  combined_follows f p q r t j k v u o narrow h g e =
      then_follows IsBelow Is (integer_kind p j) (integer r v) _ _ (integer_follows p r j v h) (λ a x ha.
      then_follows (IsSecond f o) Is (second_kind f q k o) (second f t u) _ _ (second_follows f q t k u o g e) (λ b y hb. apply_fits f a b x y o narrow ha hb))

  pub truth_fits : (b : Bool) → Is (truth width b) (IntUpTo (greatest width))
  truth_fits true = let pos = pow_pos width in record { fit = le_test _ _ (omega arith); word = omega (arith, pos) }
  truth_fits false = let pos = pow_pos width in record { fit = le_test _ _ (omega arith); word = pos }

  abbrev Any : Bool → Unit {0} → Type 0
  Any b u = Unit {0}

  equal_follows : (p q r t : Place) (j k : Kind) (v u : Value) → Is v j → Is u k → Follows Any (equal_kind p j q k) (equal r v t u)
  equal_follows p q r t (IntUpTo a) (IntUpTo b) (Int x) (Int y) h g = tt
  equal_follows p q r t (IntUpTo a) (IntUpTo b) (Int x) u h g = absurd (let bad : false ≡ true = g.fit in cc)
  equal_follows p q r t (IntUpTo a) (IntUpTo b) v u h g = absurd (let bad : false ≡ true = h.fit in cc)
  equal_follows p q r t (BufOf a) (BufOf b) (Buf x) (Buf y) h g = tt
  equal_follows p q r t (BufOf a) (BufOf b) (Buf x) u h g = absurd (let bad : false ≡ true = g.fit in cc)
  equal_follows p q r t (BufOf a) (BufOf b) v u h g = absurd (let bad : false ≡ true = h.fit in cc)
  equal_follows p q r t (StrOf a) (StrOf b) (Str x) (Str y) h g = tt
  equal_follows p q r t (StrOf a) (StrOf b) (Str x) u h g = absurd (let bad : false ≡ true = g.fit in cc)
  equal_follows p q r t (StrOf a) (StrOf b) v u h g = absurd (let bad : false ≡ true = h.fit in cc)
  equal_follows p q r t j k v u h g = tt

  pub compared_follows : (f : Comparison) (p q r t : Place) (j k : Kind) (v u : Value) → Is v j → Is u k → Follows Is (compared_kind width f p j q k) (compared width f r v t u)
  compared_follows comparison.LEqual p q r t j k v u h g = then_follows Any Is (equal_kind p j q k) (equal r v t u) _ _ (equal_follows p q r t j k v u h g) (λ w b x. truth_fits b)
  compared_follows f p q r t j k v u h g =
      then_follows IsBelow Is (integer_kind p j) (integer r v) (λ a. then_rule (integer_kind q k) (λ b. Ok (IntUpTo (greatest width)))) (λ m. rules.◌>>=◌ (integer t u) (λ n. Ok (truth width (holds f m n)))) (integer_follows p r j v h) (λ a x ha.
      then_follows IsBelow Is (integer_kind q k) (integer t u) (λ b. Ok (IntUpTo (greatest width))) (λ n. Ok (truth width (holds f x n))) (integer_follows q t k u g) (λ b y hb. truth_fits (holds f x y)))

  -- FindSetLeftBit and FindSetRightBit
  found_left : (n : ℕ) → width ≤ 64 → n < 2 ^ width → 64 - count_leading_zeros 64 n ≤ width
  found_left zero narrow lt = let none_set = leading_of_zero 64 in omega (arith, none_set)
  found_left (suc n) narrow lt =
      let wide : 2 ^ width ≤ 2 ^ 64 = pow-le-pow_right {n = 2} (omega arith) narrow in
      let top = leading_top 64 (suc n) (omega arith) (omega (arith, lt, wide)) in
      top_below top.0 top.1 (top.2, top.3)
    where
      top_below : (j : ℕ) → count_leading_zeros 64 (suc n) + suc j ≡ 64 → (2 ^ j ≤ suc n) × (suc n < 2 ^ suc j) → 64 - count_leading_zeros 64 (suc n) ≤ width
      top_below j e h = choice (nat_lt j width) refl
        where
          choice : (b : Bool) → nat_lt j width ≡ b → 64 - count_leading_zeros 64 (suc n) ≤ width
          choice true k = let small : j < width = ltb-true j width k in omega (arith, e, small)
          choice false k = let large : width ≤ j = grind (arith, nat_tests) in let above : 2 ^ width ≤ 2 ^ j = pow-le-pow_right {n = 2} (omega arith) large in let low = h.0 in absurd (omega (arith, lt, above, low))

  right_test : (b : Bool) (n : ℕ) → (n == 0) ≡ b → width ≤ 64 → n < 2 ^ width → (if b then 0 else suc (count_trailing_zeros 64 n)) ≤ width
  right_test true n e narrow lt = omega arith
  right_test false n e narrow lt =
      let some : 0 < n = grind (arith, nat_tests) in
      let wide : 2 ^ width ≤ 2 ^ 64 = pow-le-pow_right {n = 2} (omega arith) narrow in
      let low = bit_at-trailing_zeros w64 n some (omega (arith, lt, wide)) in
      choice (nat_lt (count_trailing_zeros 64 n) width) refl low.1
    where
      choice : (b : Bool) → nat_lt (count_trailing_zeros 64 n) width ≡ b → bit_at n (count_trailing_zeros 64 n) ≡ 1 → suc (count_trailing_zeros 64 n) ≤ width
      choice true k set = let small : count_trailing_zeros 64 n < width = ltb-true (count_trailing_zeros 64 n) width k in omega (arith, small)
      choice false k set = let large : width ≤ count_trailing_zeros 64 n = grind (arith, nat_tests) in let clear = bit_at_above n width (count_trailing_zeros 64 n) lt large in absurd (let bad : 0 ≡ 1 = sym clear ∙ set in cc)

  transform_fits : (f : Bitwise) (n : ℕ) → width ≤ 64 → n < 2 ^ width → Is (wrapped width (transform f n)) (IntUpTo (transformed_most width f))
  transform_fits bitwise.Not n narrow lt = record { fit = in_greatest width _ (in_range width (transform bitwise.Not n)); word = in_range width (transform bitwise.Not n) }
  transform_fits bitwise.FindSetLeftBit n narrow lt = let less = mod-le (64 - count_leading_zeros 64 n) (2 ^ width) in let most = found_left n narrow lt in record { fit = le_test _ _ (omega (arith, less, most)); word = in_range width (64 - count_leading_zeros 64 n) }
  transform_fits bitwise.FindSetRightBit n narrow lt = let less = mod-le (if n == 0 then 0 else suc (count_trailing_zeros 64 n)) (2 ^ width) in let most = right_test (n == 0) n refl narrow lt in record { fit = le_test _ _ (omega (arith, less, most)); word = in_range width (if n == 0 then 0 else suc (count_trailing_zeros 64 n)) }

  pub transformed_follows : (f : Bitwise) (p q : Place) (k : Kind) (v : Value) → width ≤ 64 → Is v k → Follows Is (transformed_kind width f p k) (transformed width f q v)
  transformed_follows f p q k v narrow h = then_follows IsBelow Is (integer_kind p k) (integer q v) _ _ (integer_follows p q k v h) (λ a n hn. transform_fits f n narrow hn.word)

  pub negated_follows : (p q : Place) (k : Kind) (v : Value) → Is v k → Follows Is (negated_kind width p k) (negated width q v)
  negated_follows p q k v h = then_follows IsBelow Is (integer_kind p k) (integer q v) _ _ (integer_follows p q k v h) (λ a n hn. truth_fits (n == 0))

  -- a quotient and a remainder
  pub record AreDivision (d : Division) (k : DivisionKinds) : Type 0 where
    pub quotient : Is d.quotient k.quotient
    pub remainder : Is d.remainder k.remainder

  quotient_le : (a x y : ℕ) (o : Option ℕ) → x ≤ a → IsNumber o (Int y) → x / y ≤ quotient_most a o
  quotient_le a x y (Some (suc c)) le e = let same : y ≡ suc c = (let f : Int y ≡ Int (suc c) = e in cc) in subst (λ n. x / n ≤ a / suc c) (sym same) (divided_le x a (suc c) (omega arith) le)
  quotient_le a x y (Some zero) le e = let less = div-le_self x y in omega (arith, le, less)
  quotient_le a x y None le e = let less = div-le_self x y in omega (arith, le, less)

  remainder_le : (a x y b : ℕ) (o : Option ℕ) → x ≤ a → x < 2 ^ width → IsNumber o (Int y) → x % y ≤ applied width arithmetic.Mod a b o
  remainder_le a x y b (Some (suc c)) le lt e =
      let same : y ≡ suc c = (let f : Int y ≡ Int (suc c) = e in cc) in
      let less : x % y ≤ x = mod-le x y in
      let third : x % y < suc c = subst (λ n. x % n < suc c) (sym same) (mod-lt x (omega arith)) in
      omega (arith, le, less, third)
  remainder_le a x y b (Some zero) le lt e = let less : x % y ≤ x = mod-le x y in omega (arith, lt, less)
  remainder_le a x y b None le lt e = let less : x % y ≤ x = mod-le x y in omega (arith, lt, less)

  division_fits : (a b x y : ℕ) (o : Option ℕ) → IsBelow x a → IsSecond arithmetic.Mod o y b → AreDivision (record { quotient = Int (x / y); remainder = Int (x % y) }) (record { quotient = IntUpTo (quotient_most a o); remainder = IntUpTo (applied width arithmetic.Mod a b o) })
  division_fits a b x y o h g =
      let le : x ≤ a = leb-true x a h.below in
      let small = h.word in
      let part : x / y ≤ x = div-le_self x y in
      let rest : x % y ≤ x = mod-le x y in
      record {
        quotient = record { fit = le_test _ _ (quotient_le a x y o le g.is_number); word = omega (arith, small, part) };
        remainder = record { fit = le_test _ _ (remainder_le a x y b o le small g.is_number); word = omega (arith, small, rest) };
      }

  pub divided_follows : (p q r t : Place) (j k : Kind) (v u : Value) (o : Option ℕ) → Is v j → Is u k → IsNumber o u → Follows AreDivision (divided_kind width p j q k o) (divided r v t u)
  divided_follows p q r t j k v u o h g e =
      then_follows IsBelow AreDivision (integer_kind p j) (integer r v) _ _ (integer_follows p r j v h) (λ a x ha.
      then_follows (IsSecond arithmetic.Mod o) AreDivision (second_kind arithmetic.Mod q k o) (second arithmetic.Mod t u) _ _ (second_follows arithmetic.Mod q t k u o g e) (λ b y hb. division_fits a b x y o ha hb))

  -- bytes
  low_bytes : (i n x : ℕ) → AreBytes (bytes_low_first i n x)
  low_bytes i zero x = tt
  low_bytes zero (suc n) x = (mod-lt x (omega arith), low_bytes 1 n x)
  low_bytes (suc i) (suc n) x = (mod-lt (x / 256 ^ suc i) (omega arith), low_bytes (suc (suc i)) n x)

  low_length : (i n x : ℕ) → length (bytes_low_first i n x) ≡ n
  low_length i zero x = refl
  low_length i (suc n) x = ap suc (low_length (suc i) n x)

  same_size : (m n : ℕ) → m ≡ n → (m == n) ≡ true
  same_size m n e = grind (arith, nat_tests)

  -- the integer of some first bytes has 8 bits of each
  first_small : (m : ℕ) (bytes : List ℕ) → AreBytes bytes → bytes_integer (take m bytes) < 2 ^ (8 * min (length bytes) m)
  first_small zero bytes h = let e : 8 * min (length bytes) 0 ≡ 0 = omega arith in rw e (omega arith)
  first_small (suc m) [] h = pow_pos _
  first_small (suc m) (b ∷ bytes) h =
      let rest = first_small m bytes h.1 in
      let e : 8 * min (suc (length bytes)) (suc m) ≡ 8 + 8 * min (length bytes) m = omega arith in
      let p : 2 ^ (8 + 8 * min (length bytes) m) ≡ 256 * 2 ^ (8 * min (length bytes) m) = pow-add 2 8 (8 * min (length bytes) m) in
      let low = h.0 in
      rw e (rw p (omega (arith, rest, low)))

  buffer_small : (bytes : List ℕ) (n : ℕ) → length bytes ≡ n → AreBytes bytes → bytes_integer (take (width / 8) bytes) < 2 ^ min (8 * n) width
  buffer_small bytes n e h =
      let less = first_small (width / 8) bytes h in
      let le : 8 * min (length bytes) (width / 8) ≤ min (8 * n) width = omega (arith, e) in
      let more : 2 ^ (8 * min (length bytes) (width / 8)) ≤ 2 ^ min (8 * n) width = pow-le-pow_right {n = 2} (omega arith) le in
      omega (arith, less, more)

  buffer_integer_follows : (op at : Place) (bytes : List ℕ) (n : ℕ) → length bytes ≡ n → AreBytes bytes → Follows Is (buffer_integer width op n) (first_integer width at bytes)
  buffer_integer_follows op at bytes n e h = subst (λ m. Follows Is (if m == 0 then refuses causes.Index op else Ok (IntUpTo (buffer_most width m))) (first_integer width at bytes)) e (choice (length bytes == 0))
    where
      choice : (b : Bool) → Follows Is (if b then refuses causes.Index op else Ok (IntUpTo (buffer_most width (length bytes)))) (if b then rules.fails why.Index at else Ok (Int (bytes_integer (take (width / 8) bytes))))
      choice true = tt
      choice false =
          let less = buffer_small bytes (length bytes) refl h in
          let le : min (8 * length bytes) width ≤ width = omega arith in
          let more : 2 ^ min (8 * length bytes) width ≤ 2 ^ width = pow-le-pow_right {n = 2} (omega arith) le in
          record { fit = le_test _ _ (omega (arith, less)); word = omega (arith, less, more) }

  size_told : (m n : ℕ) → (m == n) ≡ true → m ≡ n
  size_told m n e = eqb-true m n e

  pub converted_follows : (f : Conversion) (op p at q : Place) (k : Kind) (v : Value) → Is v k → Follows Is (converted_kind width f op p k) (converted width f at q v)
  converted_follows conversion.ToBuffer op p at q (IntUpTo a) (Int n) h = record { fit = same_size _ _ (low_length 0 (width / 8) n); word = low_bytes 0 (width / 8) n }
  converted_follows conversion.ToBuffer op p at q (IntUpTo a) (Buf xs) h = absurd (let bad : false ≡ true = h.fit in cc)
  converted_follows conversion.ToBuffer op p at q (IntUpTo a) (Str xs) h = absurd (let bad : false ≡ true = h.fit in cc)
  converted_follows conversion.ToBuffer op p at q (IntUpTo a) (Pkg xs) h = absurd (let bad : false ≡ true = h.fit in cc)
  converted_follows conversion.ToBuffer op p at q (BufOf n) (Buf xs) h = h
  converted_follows conversion.ToBuffer op p at q (BufOf n) (Int x) h = absurd (let bad : false ≡ true = h.fit in cc)
  converted_follows conversion.ToBuffer op p at q (BufOf n) (Str xs) h = absurd (let bad : false ≡ true = h.fit in cc)
  converted_follows conversion.ToBuffer op p at q (BufOf n) (Pkg xs) h = absurd (let bad : false ≡ true = h.fit in cc)
  converted_follows conversion.ToInteger op p at q (IntUpTo a) (Int n) h = h
  converted_follows conversion.ToInteger op p at q (IntUpTo a) (Buf xs) h = absurd (let bad : false ≡ true = h.fit in cc)
  converted_follows conversion.ToInteger op p at q (IntUpTo a) (Str xs) h = absurd (let bad : false ≡ true = h.fit in cc)
  converted_follows conversion.ToInteger op p at q (IntUpTo a) (Pkg xs) h = absurd (let bad : false ≡ true = h.fit in cc)
  converted_follows conversion.ToInteger op p at q (BufOf n) (Buf xs) h = buffer_integer_follows op at xs n (size_told _ _ h.fit) h.word
  converted_follows conversion.ToInteger op p at q (BufOf n) (Int x) h = absurd (let bad : false ≡ true = h.fit in cc)
  converted_follows conversion.ToInteger op p at q (BufOf n) (Str xs) h = absurd (let bad : false ≡ true = h.fit in cc)
  converted_follows conversion.ToInteger op p at q (BufOf n) (Pkg xs) h = absurd (let bad : false ≡ true = h.fit in cc)
  converted_follows f op p at q k v h = tt

  -- bytes behind others
  appended_bytes : (xs ys : List ℕ) → AreBytes xs → AreBytes ys → AreBytes (xs ++ ys)
  appended_bytes [] ys h g = g
  appended_bytes (x ∷ xs) ys h g = (h.0, appended_bytes xs ys h.1 g)

  appended_length : (xs ys : List ℕ) → length (xs ++ ys) ≡ length xs + length ys
  appended_length [] ys = let g : length ys ≡ 0 + length ys = omega arith in g
  appended_length (x ∷ xs) ys = let e = appended_length xs ys in let g : suc (length (xs ++ ys)) ≡ suc (length xs) + length ys = omega (arith, e) in g

  limited_follows : (make : List ℕ → Value) (op at : Place) (xs : List ℕ) (n : ℕ) (k : Kind) → length xs ≡ n → Is (make xs) k → Follows Is (limited_kind op n k) (rules.◌>>=◌ (limited at xs) (λ bytes. Ok (make bytes)))
  limited_follows make op at xs n k e h = subst (λ m. Follows Is (if nat_le m most_bytes then Ok k else refuses causes.OutsideProfile op) (rules.◌>>=◌ (limited at xs) (λ bytes. Ok (make bytes)))) e (choice (nat_le (length xs) most_bytes))
    where
      choice : (b : Bool) → Follows Is (if b then Ok k else refuses causes.OutsideProfile op) (rules.◌>>=◌ (if b then Ok xs else rules.fails why.Outside at) (λ bytes. Ok (make bytes)))
      choice true = h
      choice false = tt

  pub concatenated_follows : (op p q at r t : Place) (j k : Kind) (v u : Value) → Is v j → Is u k → Follows Is (concatenated_kind op p j q k) (concatenated at r v t u)
  concatenated_follows op p q at r t (BufOf a) (BufOf b) (Buf x) (Buf y) h g =
      let e : length (x ++ y) ≡ a + b = (let one = size_told _ _ h.fit in let two = size_told _ _ g.fit in let both = appended_length x y in omega (arith, one, two, both)) in
      limited_follows Buf op at (x ++ y) (a + b) (BufOf (a + b)) e (record { fit = same_size _ _ e; word = appended_bytes x y h.word g.word })
  concatenated_follows op p q at r t (BufOf a) (BufOf b) (Buf x) u h g = absurd (let bad : false ≡ true = g.fit in cc)
  concatenated_follows op p q at r t (BufOf a) (BufOf b) v u h g = absurd (let bad : false ≡ true = h.fit in cc)
  concatenated_follows op p q at r t (StrOf a) (StrOf b) (Str x) (Str y) h g =
      let e : length (x ++ y) ≡ a + b = (let one = size_told _ _ h.fit in let two = size_told _ _ g.fit in let both = appended_length x y in omega (arith, one, two, both)) in
      limited_follows Str op at (x ++ y) (a + b) (StrOf (a + b)) e (record { fit = same_size _ _ e; word = appended_bytes x y h.word g.word })
  concatenated_follows op p q at r t (StrOf a) (StrOf b) (Str x) u h g = absurd (let bad : false ≡ true = g.fit in cc)
  concatenated_follows op p q at r t (StrOf a) (StrOf b) v u h g = absurd (let bad : false ≡ true = h.fit in cc)
  concatenated_follows op p q at r t j k v u h g = tt

  -- how large a value is
  shape_count : (es : Elements) (s : Shape) → fits_shape es s ≡ true → count es ≡ places s
  shape_count elements.none bare e = refl
  shape_count (elements.more x es) (with k ks) e = ap suc (shape_count es ks (and_parts (fits_place x k) (fits_shape es ks) e).1)
  shape_count elements.none (with k ks) e = absurd cc
  shape_count (elements.more x es) bare e = absurd cc

  exact : (m n : ℕ) → m ≡ n → Is (wrapped width m) (IntUpTo (n % 2 ^ width))
  exact m n e = record { fit = le_test _ _ (let le : n % 2 ^ width ≤ n % 2 ^ width = omega arith in subst (λ k. k % 2 ^ width ≤ n % 2 ^ width) (sym e) le); word = in_range width m }

  pub size_follows : (p q : Place) (k : Kind) (v : Value) → Is v k → Follows Is (size_kind width p k) (size_of width q v)
  size_follows p q (BufOf n) (Buf xs) h = exact (length xs) n (size_told _ _ h.fit)
  size_follows p q (BufOf n) (Int x) h = absurd (let bad : false ≡ true = h.fit in cc)
  size_follows p q (BufOf n) (Str xs) h = absurd (let bad : false ≡ true = h.fit in cc)
  size_follows p q (BufOf n) (Pkg xs) h = absurd (let bad : false ≡ true = h.fit in cc)
  size_follows p q (StrOf n) (Str xs) h = exact (length xs) n (size_told _ _ h.fit)
  size_follows p q (StrOf n) (Int x) h = absurd (let bad : false ≡ true = h.fit in cc)
  size_follows p q (StrOf n) (Buf xs) h = absurd (let bad : false ≡ true = h.fit in cc)
  size_follows p q (StrOf n) (Pkg xs) h = absurd (let bad : false ≡ true = h.fit in cc)
  size_follows p q (PkgOf s) (Pkg es) h = exact (count es) (places s) (shape_count es s h.fit)
  size_follows p q (PkgOf s) (Int x) h = absurd (let bad : false ≡ true = h.fit in cc)
  size_follows p q (PkgOf s) (Buf xs) h = absurd (let bad : false ≡ true = h.fit in cc)
  size_follows p q (PkgOf s) (Str xs) h = absurd (let bad : false ≡ true = h.fit in cc)
  size_follows p q AnyPkg (Pkg es) h = let most = h.word.0 in let less = mod-le (count es) (2 ^ width) in record { fit = le_test _ _ (omega (arith, most, less)); word = in_range width (count es) }
  size_follows p q AnyPkg (Int x) h = absurd (let bad : false ≡ true = h.fit in cc)
  size_follows p q AnyPkg (Buf xs) h = absurd (let bad : false ≡ true = h.fit in cc)
  size_follows p q AnyPkg (Str xs) h = absurd (let bad : false ≡ true = h.fit in cc)
  size_follows p q k v h = tt

  pub interface_follows : (is_interface : List ℕ → Bool) (p q : Place) (k : Kind) (v : Value) → Is v k → Follows Is (interface_kind width p k) (answered is_interface width q v)
  interface_follows is_interface p q (StrOf n) (Str text) h = truth_fits (is_interface text)
  interface_follows is_interface p q (StrOf n) (Int x) h = absurd (let bad : false ≡ true = h.fit in cc)
  interface_follows is_interface p q (StrOf n) (Buf xs) h = absurd (let bad : false ≡ true = h.fit in cc)
  interface_follows is_interface p q (StrOf n) (Pkg xs) h = absurd (let bad : false ≡ true = h.fit in cc)
  interface_follows is_interface p q k v h = tt

  -- what an Index leads to
  byte_follows : (op at : Place) (bytes : List ℕ) (i : ℕ) → 255 < 2 ^ width → AreBytes bytes → i < length bytes → Follows Is (Ok (IntUpTo 255)) (byte_read at (slice_get bytes i))
  byte_follows op at [] i wide h lt = absurd (let bad : i < 0 = lt in omega (arith, bad))
  byte_follows op at (b ∷ bytes) zero wide h lt = let small = h.0 in record { fit = le_test b 255 (omega (arith, small)); word = omega (arith, small, wide) }
  byte_follows op at (b ∷ bytes) (suc i) wide h lt = byte_follows op at bytes i wide h.1 (let less : suc i < suc (length bytes) = lt in omega (arith, less))

  bytes_led : (op at q t : Place) (bytes : List ℕ) (n : ℕ) (k : Kind) (u : Value) → 255 < 2 ^ width → length bytes ≡ n → AreBytes bytes → Is u k → Follows Is (then_rule (integer_kind q k) (λ a. inside op a n (Ok (IntUpTo 255)))) (rules.◌>>=◌ (integer t u) (λ i. byte_read at (slice_get bytes i)))
  bytes_led op at q t bytes n k u wide e h g = then_follows IsBelow Is (integer_kind q k) (integer t u) (λ a. inside op a n (Ok (IntUpTo 255))) (λ i. byte_read at (slice_get bytes i)) (integer_follows q t k u g) (λ a i hi. choice a i (leb-true i a hi.below) (nat_lt a n) refl)
    where
      choice : (a i : ℕ) → i ≤ a → (b : Bool) → nat_lt a n ≡ b → Follows Is (if b then Ok (IntUpTo 255) else refuses causes.Index op) (byte_read at (slice_get bytes i))
      choice a i le true f = let lt : a < n = ltb-true a n f in byte_follows op at bytes i wide h (omega (arith, le, lt, e))
      choice a i le false f = tt

  -- an element that is read where its place has a kind
  abbrev FitsValue : Option Element → Kind → Type 0
  FitsValue (Some (Holds v)) k = Is v k
  FitsValue o k = ⊥

  abbrev FitsRead : Option Element → Option ElementKind → Type 0
  FitsRead o (Some (ValueOf k)) = FitsValue o k
  FitsRead o (Some AnyName) = Unit {0}
  FitsRead o (Some Anything) = Unit {0}
  FitsRead o None = Unit {0}

  place_reads : (x : Element) (k : ElementKind) → fits_place x k ≡ true → IsWordElement width x → FitsRead (Some x) (Some k)
  place_reads (Holds v) (ValueOf k) e w = record { fit = e; word = w }
  place_reads (Named o) (ValueOf k) e w = absurd cc
  place_reads Unset (ValueOf k) e w = absurd cc
  place_reads x AnyName e w = tt
  place_reads x Anything e w = tt

  reads_left : (o : Option Element) (j k : ElementKind) → FitsRead o (Some j) → FitsRead o (Some (join_elements j k))
  reads_left (Some (Holds v)) (ValueOf j) (ValueOf k) h = join_left width v j k h
  reads_left (Some (Named n)) (ValueOf j) (ValueOf k) h = absurd h
  reads_left (Some Unset) (ValueOf j) (ValueOf k) h = absurd h
  reads_left None (ValueOf j) (ValueOf k) h = absurd h
  reads_left o (ValueOf j) AnyName h = tt
  reads_left o (ValueOf j) Anything h = tt
  reads_left o AnyName (ValueOf k) h = tt
  reads_left o AnyName AnyName h = tt
  reads_left o AnyName Anything h = tt
  reads_left o Anything (ValueOf k) h = tt
  reads_left o Anything AnyName h = tt
  reads_left o Anything Anything h = tt

  reads_right : (o : Option Element) (j k : ElementKind) → FitsRead o (Some k) → FitsRead o (Some (join_elements j k))
  reads_right (Some (Holds v)) (ValueOf j) (ValueOf k) h = join_right width v j k h
  reads_right (Some (Named n)) (ValueOf j) (ValueOf k) h = absurd h
  reads_right (Some Unset) (ValueOf j) (ValueOf k) h = absurd h
  reads_right None (ValueOf j) (ValueOf k) h = absurd h
  reads_right o (ValueOf j) AnyName h = tt
  reads_right o (ValueOf j) Anything h = tt
  reads_right o AnyName (ValueOf k) h = tt
  reads_right o AnyName AnyName h = tt
  reads_right o AnyName Anything h = tt
  reads_right o Anything (ValueOf k) h = tt
  reads_right o Anything AnyName h = tt
  reads_right o Anything Anything h = tt

  first_joined : (o : Option Element) (k : ElementKind) (d : Option ElementKind) → FitsRead o (Some k) → FitsRead o (Some (joined_with k d))
  first_joined o k None h = h
  first_joined o k (Some d) h = reads_left o k d h

  later_joined : (o : Option Element) (k : ElementKind) (d : Option ElementKind) → (d ≡ None → ⊥) → FitsRead o d → FitsRead o (Some (joined_with k d))
  later_joined o k None n h = absurd (n refl)
  later_joined o k (Some d) n h = reads_right o k d h

  some_joined : (s : Shape) → 0 < places s → joined_places s ≡ None → ⊥
  some_joined bare lt e = omega (arith, lt)
  some_joined (with k ks) lt e = absurd cc

  element_there : (es : Elements) (s : Shape) (i : ℕ) → fits_shape es s ≡ true → AreWords width es → i < places s → FitsRead (element_numbered es i) (place_numbered s i)
  element_there elements.none bare i e w lt = tt
  element_there elements.none (with k ks) i e w lt = absurd cc
  element_there (elements.more x es) bare i e w lt = absurd cc
  element_there (elements.more x es) (with k ks) zero e w lt = place_reads x k (and_parts (fits_place x k) (fits_shape es ks) e).0 w.0
  element_there (elements.more x es) (with k ks) (suc i) e w lt = element_there es ks i (and_parts (fits_place x k) (fits_shape es ks) e).1 w.1 (let less : suc i < suc (places ks) = lt in omega (arith, less))

  joined_there : (es : Elements) (s : Shape) (i : ℕ) → fits_shape es s ≡ true → AreWords width es → i < places s → FitsRead (element_numbered es i) (joined_places s)
  joined_there elements.none bare i e w lt = tt
  joined_there elements.none (with k ks) i e w lt = absurd cc
  joined_there (elements.more x es) bare i e w lt = absurd cc
  joined_there (elements.more x es) (with k ks) zero e w lt = first_joined (Some x) k (joined_places ks) (place_reads x k (and_parts (fits_place x k) (fits_shape es ks) e).0 w.0)
  joined_there (elements.more x es) (with k ks) (suc i) e w lt =
      let less : i < places ks = (let l : suc i < suc (places ks) = lt in omega (arith, l)) in
      later_joined (element_numbered es i) k (joined_places ks) (some_joined ks (omega (arith, less))) (joined_there es ks i (and_parts (fits_place x k) (fits_shape es ks) e).1 w.1 less)

  led_there : (es : Elements) (s : Shape) (i : ℕ) (o : Option ℕ) → fits_shape es s ≡ true → AreWords width es → IsNumber o (Int i) → i < places s → FitsRead (element_numbered es i) (place_led s o)
  led_there es s i (Some n) e w num lt = let same : i ≡ n = (let f : Int i ≡ Int n = num in cc) in subst (λ m. FitsRead (element_numbered es i) (place_numbered s m)) same (element_there es s i e w lt)
  led_there es s i None e w num lt = joined_there es s i e w lt

  read_follows : (op at : Place) (o : Option Element) (k : Option ElementKind) → FitsRead o k → Follows Is (element_read_kind op k) (element_read at o)
  read_follows op at (Some (Holds v)) (Some (ValueOf k)) h = h
  read_follows op at (Some (Named n)) (Some (ValueOf k)) h = absurd h
  read_follows op at (Some Unset) (Some (ValueOf k)) h = absurd h
  read_follows op at None (Some (ValueOf k)) h = absurd h
  read_follows op at o (Some AnyName) h = tt
  read_follows op at o (Some Anything) h = tt
  read_follows op at o None h = tt

  element_led : (op at q t : Place) (es : Elements) (s : Shape) (k : Kind) (u : Value) (o : Option ℕ) → fits_shape es s ≡ true → AreWords width es → Is u k → IsNumber o u → Follows Is (then_rule (integer_kind q k) (λ a. inside op a (places s) (element_read_kind op (place_led s o)))) (rules.◌>>=◌ (integer t u) (λ i. element_read at (element_numbered es i)))
  element_led op at q t es s k u o e w g num = then_follows (IsSecond arithmetic.Add o) Is (integer_kind q k) (integer t u) (λ a. inside op a (places s) (element_read_kind op (place_led s o))) (λ i. element_read at (element_numbered es i)) (integer_is q t k u o arithmetic.Add g num) (λ a i hi. choice a i (leb-true i a hi.below.below) hi.is_number (nat_lt a (places s)) refl)
    where
      choice : (a i : ℕ) → i ≤ a → IsNumber o (Int i) → (b : Bool) → nat_lt a (places s) ≡ b → Follows Is (if b then element_read_kind op (place_led s o) else refuses causes.Index op) (element_read at (element_numbered es i))
      choice a i le same true f = let lt : a < places s = ltb-true a (places s) f in read_follows op at (element_numbered es i) (place_led s o) (led_there es s i o e w same (omega (arith, le, lt)))
      choice a i le same false f = tt

  pub led_follows : (op p q at r t : Place) (j k : Kind) (v u : Value) (o : Option ℕ) → 255 < 2 ^ width → Is v j → Is u k → IsNumber o u → Follows Is (led_kind op p j q k o) (element_at at r v t u)
  led_follows op p q at r t (BufOf n) k (Buf xs) u o wide h g num = bytes_led op at q t xs n k u wide (size_told _ _ h.fit) h.word g
  led_follows op p q at r t (BufOf n) k (Int x) u o wide h g num = absurd (let bad : false ≡ true = h.fit in cc)
  led_follows op p q at r t (BufOf n) k (Str xs) u o wide h g num = absurd (let bad : false ≡ true = h.fit in cc)
  led_follows op p q at r t (BufOf n) k (Pkg xs) u o wide h g num = absurd (let bad : false ≡ true = h.fit in cc)
  led_follows op p q at r t (StrOf n) k (Str xs) u o wide h g num = bytes_led op at q t xs n k u wide (size_told _ _ h.fit) h.word g
  led_follows op p q at r t (StrOf n) k (Int x) u o wide h g num = absurd (let bad : false ≡ true = h.fit in cc)
  led_follows op p q at r t (StrOf n) k (Buf xs) u o wide h g num = absurd (let bad : false ≡ true = h.fit in cc)
  led_follows op p q at r t (StrOf n) k (Pkg xs) u o wide h g num = absurd (let bad : false ≡ true = h.fit in cc)
  led_follows op p q at r t (PkgOf s) k (Pkg es) u o wide h g num = element_led op at q t es s k u o h.fit h.word.1 g num
  led_follows op p q at r t (PkgOf s) k (Int x) u o wide h g num = absurd (let bad : false ≡ true = h.fit in cc)
  led_follows op p q at r t (PkgOf s) k (Buf xs) u o wide h g num = absurd (let bad : false ≡ true = h.fit in cc)
  led_follows op p q at r t (PkgOf s) k (Str xs) u o wide h g num = absurd (let bad : false ≡ true = h.fit in cc)
  led_follows op p q at r t AnyPkg k (Pkg es) u o wide h g num = then_follows IsBelow Is (integer_kind q k) (integer t u) (λ a. refuses causes.Index op) (λ i. element_read at (element_numbered es i)) (integer_follows q t k u g) (λ a i hi. tt)
  led_follows op p q at r t AnyPkg k (Int x) u o wide h g num = absurd (let bad : false ≡ true = h.fit in cc)
  led_follows op p q at r t AnyPkg k (Buf xs) u o wide h g num = absurd (let bad : false ≡ true = h.fit in cc)
  led_follows op p q at r t AnyPkg k (Str xs) u o wide h g num = absurd (let bad : false ≡ true = h.fit in cc)
  led_follows op p q at r t j k v u o wide h g num = tt
