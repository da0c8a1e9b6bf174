-- What is read of a field is of its kind.
use Rattle.std.proofs.Common.{◌≡◌, ℕ, zero, suc, ◌+◌, ◌-◌, ◌*◌, ◌/◌, ◌^◌, ◌<◌, ◌≤◌, List, [], ◌∷◌, ◌++◌, length, refl, ap, subst, arith}
use Rattle.std.specs.Prelude.{Bool, true, false, ◌==◌, if◌then◌else◌, nat_le, nat_lt, map}
use Rattle.std.specs.List.{range_with_len}
use Rattle.std.proofs.lemmas.Bool.{leb-true}
use Rattle.std.proofs.lemmas.Bool.Decides.{nat_tests}
use Rattle.std.proofs.lemmas.Nat.{mul-le, pow-add}
use Rattle.std.proofs.lemmas.Nat.Bits.{bit_at-lt}
use Rattle.std.proofs.Math.Nat.{pow-le-pow_right}
use Rattle.aml_kinds.specs.Kinds.{IntUpTo, BufOf}
use Rattle.aml_regions.specs.Events.{Event}
use Rattle.aml_regions.specs.Bits.{number}
use Rattle.aml_regions.specs.BufferFields.{bytes_of}
use Rattle.aml_regions.specs.Fields.{count, field_bit, first, integer_of, layout_of}
use Rattle.aml_regions.specs.declared.field.AnyField.{AnyField}
use Rattle.aml_regions.specs.declared.field.AnyField.TheVariants.{Plain, Banked, Indexed}
use Rattle.aml_regions.specs.declared.field.FieldLayout.{FieldLayout}
use Rattle.aml_meaning.specs.State as state
use Rattle.aml_meaning.specs.State.{State, Out, Halts, NoAnswer, Spent}
use Rattle.aml_meaning.specs.Parts.{M, ◌>>=◌, give, then_do}
use Rattle.aml_meaning.specs.Fields.{UnitPlan, read_from, integer_read, bytes_in, bytes_read, region_plan, banked_plan, indexed_plan, plan_of, read_integer, read_bytes, value_read, read_value}
use Rattle.aml_judged.specs.KindRules.{field_kind}
use Rattle.aml_judged.specs.Safe.{AreBytes, IsOf}

-- a number of so many bits
top_lt : (n a b : ℕ) → a < 2 → b < 2 ^ n → a * 2 ^ n + b < 2 ^ suc n
top_lt n a b p q =
    let e : suc n ≡ 1 + n = omega arith in
    let s = pow-add 2 1 n in
    let m = mul-le a (2 ^ n) 1 (2 ^ n) (omega arith) (omega arith) in
    rw (e, s) (omega (arith, m))

pub number_lt : (n : ℕ) (f : ℕ → ℕ) → ((i : ℕ) → f i < 2) → number n f < 2 ^ n
unfolding number
number_lt zero f h = omega arith
number_lt (suc n) f h = top_lt n (f n) (number n f) (h n) (number_lt n f h)

pub made_length : (size from : ℕ) (g : ℕ → ℕ) → length (map g (range_with_len from size)) ≡ size
made_length zero from g = refl
made_length (suc size) from g = ap suc (made_length size (from + 1) g)

pub made_bytes : (size from : ℕ) (g : ℕ → ℕ) → ((m : ℕ) → g m < 256) → AreBytes (map g (range_with_len from size))
made_bytes zero from g h = tt
made_bytes (suc size) from g h = (h from, made_bytes size (from + 1) g h)

or_zero : (b : Bool) (n : ℕ) → n < 2 → (if b then n else 0) < 2
or_zero true n h = h
or_zero false n h = omega arith

pub bytes_length : (size n : ℕ) (bit : ℕ → ℕ) → length (bytes_of size n bit) ≡ size
unfolding bytes_of
bytes_length size n bit = made_length size 0 _

pub bytes_small : (size n : ℕ) (bit : ℕ → ℕ) → ((i : ℕ) → bit i < 2) → AreBytes (bytes_of size n bit)
unfolding bytes_of
bytes_small size n bit h = made_bytes size 0 _ (λ m. let small = number_lt 8 (λ i. if nat_lt (m * 8 + i) n then bit (m * 8 + i) else 0) (λ i. or_zero (nat_lt (m * 8 + i) n) (bit (m * 8 + i)) (h (m * 8 + i))) in omega (arith, small))

bit_small : (f : FieldLayout) (answers : List ℕ) (i : ℕ) → field_bit f answers i < 2
unfolding field_bit
bit_small f answers i = bit_at-lt _ _

-- what is said of a value, wherever a part goes on
abbrev pub Makes : {V : Type 0} → (V → Type 0) → Out V → Type 0
Makes P (state.Goes v s) = P v
Makes P (Halts stop s) = Unit {0}
Makes P (NoAnswer s) = Unit {0}
Makes P (Spent s) = Unit {0}

then_makes : {V W : Type 0} (Q : V → Type 0) (P : W → Type 0) (o : Out V) (f : V → State → Out W) → Makes Q o → ((v : V) (s : State) → Q v → Makes P (f v s)) → Makes P (then_do o f)
then_makes Q P (state.Goes v s) f h next = next v s h
then_makes Q P (Halts stop s) f h next = tt
then_makes Q P (NoAnswer s) f h next = tt
then_makes Q P (Spent s) f h next = tt

anything : {V : Type 0} (o : Out V) → Makes (λ v. Unit {0}) o
anything (state.Goes v s) = tt
anything (Halts stop s) = tt
anything (NoAnswer s) = tt
anything (Spent s) = tt

made_from : {V : Type 0} (P : V → Type 0) (read : ℕ → M ℕ) (value : List ℕ → V) → ((answers : List ℕ) → P (value answers)) → (k u : ℕ) (answers : List ℕ) (script : List Event) (s : State) → Makes P ((read_from read value k u answers).run script s)
unfolding ◌>>=◌ give
made_from P read value h zero u answers script s = h answers
made_from P read value h (suc k) u answers script s = then_makes (λ v. Unit {0}) P ((read u).run script s) _ (anything _) (λ v next q. made_from P read value h k (suc u) (answers ++ v ∷ []) script next)

layout_same : (f : AnyField) → (plan_of f).layout ≡ layout_of f
unfolding plan_of region_plan banked_plan indexed_plan
layout_same (Plain r) = refl
layout_same (Banked b) = refl
layout_same (Indexed x) = refl

integer_made : (p : UnitPlan) (script : List Event) (s : State) → Makes (λ n. n < 2 ^ p.layout.bits) ((integer_read p).run script s)
unfolding integer_read
integer_made p script s = made_from (λ n. n < 2 ^ p.layout.bits) p.read (integer_of p.layout) (λ answers. number_lt p.layout.bits (field_bit p.layout answers) (λ i. bit_small p.layout answers i)) (count p.layout) (first p.layout) [] script s

bytes_made : (p : UnitPlan) (script : List Event) (s : State) → Makes (λ bytes. (length bytes ≡ (p.layout.bits + 7) / 8) × AreBytes bytes) ((bytes_read p).run script s)
unfolding bytes_read
bytes_made p script s = made_from (λ bytes. (length bytes ≡ (p.layout.bits + 7) / 8) × AreBytes bytes) p.read (bytes_in p.layout) (λ answers. (bytes_length ((p.layout.bits + 7) / 8) p.layout.bits (field_bit p.layout answers), bytes_small ((p.layout.bits + 7) / 8) p.layout.bits (field_bit p.layout answers) (λ i. bit_small p.layout answers i))) (count p.layout) (first p.layout) [] script s

pub le_test : (m n : ℕ) → m ≤ n → nat_le m n ≡ true
le_test m n h = grind (arith, nat_tests)

pub same_size : (m n : ℕ) → m ≡ n → (m == n) ≡ true
same_size m n e = grind (arith, nat_tests)

value_made : (width : ℕ) (b : Bool) (f : AnyField) (script : List Event) (s : State) → nat_le (layout_of f).bits width ≡ b → Makes (λ v. IsOf width v (if b then IntUpTo (2 ^ (layout_of f).bits - 1) else BufOf (((layout_of f).bits + 7) / 8))) ((value_read b f).run script s)
unfolding ◌>>=◌ give read_integer read_bytes
value_made width true f script s e =
    then_makes (λ n. n < 2 ^ (layout_of f).bits) (λ v. IsOf width v (IntUpTo (2 ^ (layout_of f).bits - 1))) ((integer_read (plan_of f)).run script s) _ (subst (λ l. Makes (λ n. n < 2 ^ l.bits) ((integer_read (plan_of f)).run script s)) (layout_same f) (integer_made (plan_of f) script s)) (λ n next lt.
    let le : (layout_of f).bits ≤ width = leb-true (layout_of f).bits width e in
    let more : 2 ^ (layout_of f).bits ≤ 2 ^ width = pow-le-pow_right {n = 2} (omega arith) le in
    record { fit = le_test n (2 ^ (layout_of f).bits - 1) (omega (arith, lt)); word = omega (arith, lt, more) })
value_made width false f script s e =
    then_makes (λ bytes. (length bytes ≡ ((layout_of f).bits + 7) / 8) × AreBytes bytes) (λ v. IsOf width v (BufOf (((layout_of f).bits + 7) / 8))) ((bytes_read (plan_of f)).run script s) _ (subst (λ l. Makes (λ bytes. (length bytes ≡ (l.bits + 7) / 8) × AreBytes bytes) ((bytes_read (plan_of f)).run script s)) (layout_same f) (bytes_made (plan_of f) script s)) (λ bytes next h.
    record { fit = same_size (length bytes) (((layout_of f).bits + 7) / 8) h.0; word = h.1 })

pub field_made : (width : ℕ) (f : AnyField) (script : List Event) (s : State) → Makes (λ v. IsOf width v (field_kind width (layout_of f).bits)) ((read_value width f).run script s)
unfolding read_value
field_made width f script s = value_made width (nat_le (layout_of f).bits width) f script s refl
