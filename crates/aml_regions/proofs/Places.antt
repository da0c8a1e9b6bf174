-- Bytes put at places, and the numbers that bytes make.
use Rattle.std.proofs.Common.{◌≡◌, ℕ, ◌+◌, ◌-◌, ◌*◌, ◌<◌, ◌≤◌, ◌^◌, ◌∙◌, refl, ap, zero, suc, arith, Bool, true, false, cond, Some, Option, length, List, get_or, take, ⊎_elim, zero-add}
use Rattle.std.specs.Prelude.{◌==◌, ◌&&◌, nat_le, nat_lt, unwrap_or, IsSome, if◌then◌else◌, Result, Ok, Err, OnOk}
use Rattle.std.specs.Int.{byte_at, bytes_low_first, to_le_bytes, w64}
use Rattle.std.proofs.lemmas.Bool.{cases_eq}
use Rattle.std.proofs.lemmas.Bool.Decides.{nat_tests}
use Rattle.std.specs.declared.cmp.Ordering.{Ordering}
use Rattle.std.specs.declared.cmp.Ordering.TheVariants.{Less, Equal, Greater}
use Rattle.std.specs.Ordering.{is_eq, ordering_then, nat_cmp}
use Rattle.std.proofs.Math.Pow.{pow_mono}
use Rattle.std.proofs.lemmas.Nat.{pow-add}
use Rattle.std.proofs.lemmas.List.{get_or-take, length-take-le}
use Rattle.aml_regions.specs.Bytes.{place_cmp, with_run, number_from}

-- both parts are equal
then_is_eq : (o p : Ordering) → is_eq (ordering_then o p) ≡ is_eq o && is_eq p
then_is_eq Less p = refl
then_is_eq Equal p = refl
then_is_eq Greater p = refl

nat_cmp_is_eq : (x y : ℕ) → is_eq (nat_cmp x y) ≡ (y == x)
nat_cmp_is_eq x y = grind (arith, nat_tests)

one_address : (x y : ℕ) → is_eq (nat_cmp x y) ≡ (nat_le x y && nat_lt y (x + 1))
one_address x y = grind (arith, nat_tests)

-- the place that is found is the one address of the space
pub place_is_at : (space at s a : ℕ) →
    is_eq (place_cmp (space, at) (s, a)) ≡ (s == space) && (nat_le at a && nat_lt a (at + 1))
place_is_at space at s a =
    then_is_eq (nat_cmp space s) (nat_cmp at a) ∙ ap (λ b. b && is_eq (nat_cmp at a)) (nat_cmp_is_eq space s)
    ∙ ap (λ b. (s == space) && b) (one_address at a)

-- a value that is put, or the one that stood there
pub unwrap_put : (b : Bool) (v : ℕ) (o : Option ℕ) → unwrap_or (cond b (Some v) o) 0 ≡ cond b v (unwrap_or o 0)
unwrap_put true v o = refl
unwrap_put false v o = refl

-- what is kept stays kept
pub some_put : (b : Bool) (v : ℕ) (o : Option ℕ) → IsSome o → IsSome (cond b (Some v) o)
some_put true v o h = refl
some_put false v o h = h

run_more_at : (b : Bool) (at i a : ℕ) (run : ℕ → ℕ) (o : ℕ) →
    (if b && (nat_le (at + i) a && nat_lt a (at + i + 1)) then run i else (if b && (nat_le at a && nat_lt a (at + i)) then run (a - at) else o))
    ≡ (if b && (nat_le at a && nat_lt a (at + (i + 1))) then run (a - at) else o)
run_more_at false at i a run o = refl
run_more_at true at i a run o =
    ⊎_elim
    (λ e.
    let here : (nat_le (at + i) a && nat_lt a (at + i + 1)) ≡ true = grind (arith, nat_tests) in
    let within : (nat_le at a && nat_lt a (at + (i + 1))) ≡ true = grind (arith, nat_tests) in
    let same : i ≡ a - at = omega arith in
    rw (here, within) (ap run same))
    (λ apart.
    let elsewhere : (nat_le (at + i) a && nat_lt a (at + i + 1)) ≡ false = grind (arith, nat_tests) in
    let within : (nat_le at a && nat_lt a (at + i)) ≡ (nat_le at a && nat_lt a (at + (i + 1))) = grind (arith, nat_tests) in
    rw (elsewhere, within) refl)
    (cases_eq a (at + i))

-- one byte more of a run
pub run_more : (old : ℕ → ℕ → ℕ) (space at i : ℕ) (run : ℕ → ℕ) (s a : ℕ) →
    with_run (with_run old space at i run) space (at + i) 1 (λ _. run i) s a ≡ with_run old space at (i + 1) run s a
run_more old space at i run s a = run_more_at (s == space) at i a run (old s a)

-- a run over the same bytes
run_over_at : (b : Bool) (x y v : ℕ) → x ≡ y → cond b v x ≡ cond b v y
run_over_at b x y v e = ap (λ z. cond b v z) e

pub run_over : (old new : ℕ → ℕ → ℕ) (space at count : ℕ) (run : ℕ → ℕ) (s a : ℕ) → old s a ≡ new s a →
    with_run old space at count run s a ≡ with_run new space at count run s a
run_over old new space at count run s a e = run_over_at ((s == space) && (nat_le at a && nat_lt a (at + count))) (old s a) (new s a) (run (a - at)) e

-- no bytes are put
pub run_none : (old : ℕ → ℕ → ℕ) (space at : ℕ) (run : ℕ → ℕ) (s a : ℕ) → with_run old space at 0 run s a ≡ old s a
run_none old space at run s a =
    let outside : (nat_le at a && nat_lt a (at + 0)) ≡ false = grind (arith, nat_tests) in
    rw outside (none_at (s == space) (run (a - at)) (old s a))
  where
    none_at : (b : Bool) (v o : ℕ) → cond (b && false) v o ≡ o
    none_at true v o = refl
    none_at false v o = refl

-- no bytes make 0
pub number_none : (n : ℕ) (bytes : ℕ → ℕ) (at : ℕ) → n ≡ 0 → 0 ≡ number_from n bytes at
unfolding number_from
number_none n bytes at e = rw e refl

pub none_fits : (n : ℕ) → n ≡ 0 → 0 < 2 ^ (8 * n)
none_fits n e = rw e (omega arith)

-- one byte before a number's
pub number_more : (n m at next value byte : ℕ) (bytes : ℕ → ℕ) → m ≡ suc n → next ≡ at + 1 → byte ≡ bytes at →
    value ≡ number_from n bytes next → value * 256 + byte ≡ number_from m bytes at
unfolding number_from
number_more n m at next value byte bytes more behind here known =
    rw (more, known, here, behind) (omega arith)

-- a number of that many bytes has room for one more
pub number_fits : (n m value byte : ℕ) → m ≡ n + 1 → value < 2 ^ (8 * n) → byte < 256 → value * 256 + byte < 2 ^ (8 * m)
number_fits n m value byte more fits small =
    let eight : 8 * m ≡ 8 * n + 8 = omega arith in
    let split = pow-add 2 (8 * n) 8 in
    rw (eight, split) (omega arith)

most_bits : (n : ℕ) → n ≤ 7 → 8 * n ≤ 56
most_bits n most = omega arith

-- a number of seven bytes at most
pub number_room : (n value : ℕ) → n ≤ 7 → value < 2 ^ (8 * n) → value < 2 ^ 56
number_room n value most fits =
    let bound : 2 ^ (8 * n) ≤ 2 ^ 56 = pow_mono (most_bits n most) in
    omega arith

le_byte : (i k n j : ℕ) → j < k → get_or (bytes_low_first i k n) j 0 ≡ byte_at (i + j) n
le_byte i zero n j h = absurd (omega arith)
le_byte i (suc k) n zero h = let e : i ≡ i + 0 = omega arith in ap (λ m. byte_at m n) e
le_byte i (suc k) n (suc j) h =
    let e : suc i + j ≡ i + suc j = omega arith in
    le_byte (suc i) k n j (omega arith) ∙ ap (λ m. byte_at m n) e

-- the bytes of a number, by their places
pub le_length : (run : List ℕ) (value : ℕ) → run ≡ to_le_bytes w64 value → length run ≡ 8
le_length run value e = rw e refl

pub front_length : (run : List ℕ) (value count : ℕ) → run ≡ to_le_bytes w64 value → count ≤ 8 → length (take count run) ≡ count
front_length run value count e most =
    let whole = le_length run value e in
    length-take-le count run (omega arith)

pub front_byte : (run : List ℕ) (value count i : ℕ) → run ≡ to_le_bytes w64 value → count ≤ 8 → i < count →
    get_or (take count run) i 0 ≡ byte_at i value
front_byte run value count i e most within =
    get_or-take count run i 0 within ∙ (ap (λ l. get_or l i 0) e ∙ le_byte 0 8 value i (omega arith) ∙ ap (λ m. byte_at m value) (zero-add i))

-- runs of the same bytes
same_at : (b : Bool) (at count a x y o : ℕ) → (at ≤ a → a < at + count → x ≡ y) →
    (if b && (nat_le at a && nat_lt a (at + count)) then x else o) ≡ (if b && (nat_le at a && nat_lt a (at + count)) then y else o)
same_at false at count a x y o same = refl
same_at true at count a x y o same = grind (arith, nat_tests, same)

pub run_same : (old : ℕ → ℕ → ℕ) (space at count : ℕ) (f g : ℕ → ℕ) → ((i : ℕ) → i < count → f i ≡ g i) → (s a : ℕ) →
    with_run old space at count f s a ≡ with_run old space at count g s a
run_same old space at count f g same s a =
    same_at (s == space) at count a (f (a - at)) (g (a - at)) (old s a) (λ low high. same (a - at) (omega arith))

-- what a fact gives where a call succeeds
pub on_ok_more : {A E P Q : Type 0} (r : Result A E) → (P → Q) → OnOk r P → OnOk r Q
on_ok_more (Ok v) gives h = gives h
on_ok_more (Err e) gives h = tt
