-- How a field's answers become its value.
use Rattle.std.proofs.Common.{◌≡◌, ℕ, suc, ◌+◌, ◌-◌, ◌*◌, ◌/◌, ◌%◌, ◌<◌, List, [], ◌∷◌, ◌++◌, length, get_or, Result, Ok, Err, refl, sym, ap, subst, ◌∙◌, arith}
use Rattle.std.proofs.lemmas.Nat.{div-mul-add, mod-mul-add, div_below}
use Rattle.std.proofs.lemmas.List.{get_or_at, get_or_append_left}
use Rattle.std.proofs.lemmas.Nat.Bits.{bit_at-lt}
use Rattle.std.specs.Int.{bit_at}
use Rattle.aml_regions.specs.Bits.{number}
use Rattle.aml_fields.specs.Gathered.{GoesOn, bits_read}
use Rattle.aml_fields.proofs.Numbers.{number_same}
use Rattle.aml_meaning.specs.Fields.{UnitPlan, plan_reads, read_from}
use Rattle.aml_meaning.specs.Parts.{M}
use Rattle.aml_meaning.specs.State.{State}
use Rattle.aml_meaning.specs.Runs.{Halt, Runs}
use Rattle.aml_meaning.proofs.Runs.{runs_then, runs_stop, runs_give}
use Rattle.aml_regions.specs.declared.field.FieldLayout.{FieldLayout}
use Rattle.aml_regions.specs.Fields.{bits_of, count, end, first, field_bit}
use Rattle.aml_fields.proofs.Places.{Places, bits_some, first_below}

-- bit i of the field, where its unit and its place there are known
pub bit_there : (f : FieldLayout) (xs : List ℕ) (i u j x : ℕ) → f.at + i ≡ u * bits_of f.width + j → j < bits_of f.width → get_or xs (u - first f) 0 ≡ x → field_bit f xs i ≡ bit_at x j
unfolding field_bit
bit_there f xs i u j x is lt here =
    let unit = ap (λ p. p / bits_of f.width) is ∙ div-mul-add u (bits_of f.width) j lt in
    let place = ap (λ p. p % bits_of f.width) is ∙ mod-mul-add u (bits_of f.width) j lt in
    rw (unit, place, here) refl

-- a bit whose answer was there before
bit_before : (f : FieldLayout) (xs : List ℕ) (x i u : ℕ) → length xs ≡ u - first f → f.at + i < u * bits_of f.width → first f < u → field_bit f (xs ++ x ∷ []) i ≡ field_bit f xs i
unfolding field_bit
bit_before f xs x i u len lt low =
    let wide = bits_some f.width in
    let unit : (f.at + i) / bits_of f.width < u = div_below (f.at + i) (bits_of f.width) u wide lt in
    let within : (f.at + i) / bits_of f.width - first f < length xs = omega arith in
    ap (λ y. bit_at y ((f.at + i) % bits_of f.width)) (get_or_append_left xs (x ∷ []) 0 _ within)

pub field_bit_lt : (f : FieldLayout) (xs : List ℕ) (i : ℕ) → field_bit f xs i < 2
unfolding field_bit
field_bit_lt f xs i = bit_at-lt _ _

module _ (f : FieldLayout) (xs : List ℕ) (x u done skip take : ℕ) (p : Places (bits_of f.width) f.at f.bits u done skip take) (len : length xs ≡ u - first f) where
  -- one more answer has its run of bits, and the bits before stay
  run_there : number take (λ i. field_bit f (xs ++ x ∷ []) (done + i)) ≡ number take (λ i. bit_at x (skip + i))
  run_there = number_same take _ _
      (λ i lt. bit_there f (xs ++ x ∷ []) (done + i) u (skip + i) x (omega (arith, p.place)) (omega (arith, p.fits)) (get_or_at xs x [] 0 (u - first f) len))

  bits_before : (i : ℕ) → i < done → field_bit f (xs ++ x ∷ []) i ≡ field_bit f xs i
  bits_before i lt = bit_before f xs x i u len (p.below i lt) (first_below f u i (p.below i lt))

  -- so with it the field's bits go on behind those before
  pub goes_on : (part : ℕ) → part ≡ number take (λ i. bit_at x (skip + i)) → GoesOn (field_bit f xs) (field_bit f (xs ++ x ∷ [])) done take part
  goes_on part is = record { before_are = field_bit_lt f xs; are = field_bit_lt f (xs ++ x ∷ []); same = bits_before; run = is ∙ sym run_there }

module _ {V : Type 0} (read : ℕ → M ℕ) (value : List ℕ → V) (xs : List ℕ) where
  -- one unit is read, and then the rest
  pub read_more : (x u n k : ℕ) (s0 s1 : State) (r : Result V Halt) (last : State) → n ≡ suc k → Runs (Ok x) (read u) s0 s1 → Runs r (read_from read value k (u + 1) (xs ++ x ∷ [])) s1 last → Runs r (read_from read value n u xs) s0 last
  read_more x u n k s0 s1 r last more first rest =
      let next : u + 1 ≡ suc u = omega arith in
      rw more (runs_then _ first (subst (λ w. Runs r (read_from read value k w (xs ++ x ∷ [])) s1 last) next rest))

  -- a unit's read stops
  pub read_stops : (u n k : ℕ) (s0 s1 : State) (halt : Halt) → n ≡ suc k → Runs (Err halt) (read u) s0 s1 → Runs (Err halt) (read_from read value n u xs) s0 s1
  read_stops u n k s0 s1 halt more first = rw more (runs_stop _ first)

  -- no unit is left
  pub read_all : (u n : ℕ) (s : State) → n ≡ 0 → Runs (Ok (value xs)) (read_from read value n u xs) s s
  read_all u n s none = rw none (runs_give (value xs) s)

-- the parts of a plan
module _ (p : UnitPlan) (f : FieldLayout) (u : ℕ) (e : f ≡ p.layout) (low : u ≡ first f) where
  pub plan_bits : {V : Type 0} (made : ℕ → (ℕ → ℕ) → V) (r : Result V Halt) (s0 s1 : State) → Runs r (read_from p.read (λ xs. made f.bits (field_bit f xs)) (end f - u) u []) s0 s1 → Runs r (bits_read p made) s0 s1
  unfolding count
  plan_bits made r s0 s1 runs = subst (λ g. Runs r (read_from p.read (λ xs. made g.bits (field_bit g xs)) (end g - first g) (first g) []) s0 s1) e (subst (λ v. Runs r (read_from p.read (λ xs. made f.bits (field_bit f xs)) (end f - v) v []) s0 s1) low runs)

  pub plan_reads_left : (left : ℕ) → left - (end f - u) * p.read_events ≡ left - plan_reads p
  unfolding plan_reads count
  plan_reads_left left = ap (λ v. left - (end f - v) * p.read_events) low ∙ ap (λ g. left - (end g - first g) * p.read_events) e

-- the units that are left have one read more
pub reads_more : (n k reads : ℕ) → n ≡ suc k → n * reads ≡ reads + k * reads
reads_more n k reads more = rw more (omega arith)
