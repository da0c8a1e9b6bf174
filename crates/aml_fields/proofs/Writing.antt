-- What the units of a field are written with.
use Rattle.std.proofs.Common.{◌≡◌, ℕ, suc, ◌+◌, ◌-◌, ◌*◌, ◌/◌, ◌%◌, ◌^◌, ◌<◌, ◌≤◌, Bool, true, false, min, Result, Ok, Err, ⊎_elim, refl, sym, ap, ◌∙◌, subst, arith}
use Rattle.std.proofs.lemmas.Bool.{cases_lt}
use Rattle.std.proofs.Math.Nat.{mod-eq_of_lt}
use Rattle.std.specs.Prelude.{nat_eq, if◌then◌else◌}
use Rattle.std.proofs.lemmas.Nat.Bits.{bit_at-lt}
use Rattle.std.specs.Int.{bit_at}
use Rattle.aml_regions.specs.Bits.{number}
use Rattle.aml_fields.proofs.Numbers.{number_put, number_same, number-lt, number-bit_at}
use Rattle.aml_meaning.specs.Fields.{UnitPlan, bits_written, cost_from, others_cost, others_of, plan_writes, write_from}
use Rattle.aml_meaning.specs.Parts.{M}
use Rattle.aml_meaning.specs.State.{State}
use Rattle.aml_meaning.specs.Runs.{Halt, Runs}
use Rattle.aml_meaning.proofs.Runs.{runs_then, runs_stop, runs_give}
use Rattle.aml_regions.specs.declared.field.FieldLayout.{FieldLayout}
use Rattle.aml_regions.specs.declared.field.OtherBits.{OtherBits}
use Rattle.aml_regions.specs.declared.field.OtherBits.TheVariants.{Preserve, Ones, Zeros}
use Rattle.aml_regions.specs.Fields.{IsLaidOut, bits_of, first, count, end, covers, has, mixed}
use Rattle.aml_fields.proofs.Places.{Places, places_in}
use Rattle.aml_fields.proofs.Tests.{within_le, below_le, past_le, within_lt, below_lt, past_lt, eq_true, eq_false}

module _ (f : FieldLayout) (u done skip take : ℕ) (p : Places (bits_of f.width) f.at f.bits u done skip take) where
  has_not_below : (j : ℕ) → j < skip → has f (u * bits_of f.width + j) ≡ false
  has_not_below j lt = below_lt f.at (u * bits_of f.width + j) _ _ (omega (arith, p.before, p.place))

  has_not_past : (j : ℕ) → skip + take ≤ j → j < bits_of f.width → has f (u * bits_of f.width + j) ≡ false
  has_not_past j low lt = past_lt f.at (u * bits_of f.width + j) _ _ (omega (arith, p.before, p.place, p.last, p.within))

  has_inside : (i : ℕ) → i < take → has f (u * bits_of f.width + (skip + i)) ≡ true
  has_inside i lt = within_lt f.at (u * bits_of f.width + (skip + i)) _ _ (omega (arith, p.before, p.place)) (omega (arith, p.place, p.within))

  pub covers_is : covers f u ≡ nat_eq take (bits_of f.width)
  covers_is = ⊎_elim
      (λ (less : take < bits_of f.width). ⊎_elim
      (λ (shifted : 0 < skip). below_le f.at (u * bits_of f.width) _ _ (omega (arith, p.before, p.place)) ∙ sym (eq_false take (bits_of f.width) less))
      (λ (even : skip ≤ 0). past_le f.at (u * bits_of f.width) _ _ (omega (arith, p.before, p.place, p.last, p.within)) ∙ sym (eq_false take (bits_of f.width) less))
      (cases_lt 0 skip))
      (λ (all : bits_of f.width ≤ take). within_le f.at (u * bits_of f.width) _ _ (omega (arith, p.before, p.place, p.fits)) (omega (arith, p.place, p.fits, p.within)) ∙ sym (eq_true take (bits_of f.width) (omega (arith, p.fits))))
      (cases_lt take (bits_of f.width))

  -- the field's bits put into another number
  pub mixed_is : (bit : ℕ → ℕ) (other : ℕ) → other < 2 ^ bits_of f.width → mixed f bit u other + (other / 2 ^ skip % 2 ^ take) * 2 ^ skip ≡ other + number take (λ i. bit (done + i)) * 2 ^ skip
  unfolding mixed
  mixed_is bit other lt =
      let a = bits_of f.width in
      let b : ℕ → ℕ = λ j. if has f (u * a + j) then bit (u * a + j - f.at) else bit_at other j in
      let put = number_put a skip take other b p.fits lt
      (λ j low. ap (λ h. if h then bit (u * a + j - f.at) else bit_at other j) (has_not_below j low))
      (λ j low high. ap (λ h. if h then bit (u * a + j - f.at) else bit_at other j) (has_not_past j low high)) in
      let inner : number take (λ i. b (skip + i)) ≡ number take (λ i. bit (done + i)) = number_same take _ _
      (λ i low. ap (λ h. if h then bit (u * a + (skip + i) - f.at) else bit_at other (skip + i)) (has_inside i low) ∙ ap bit (omega (arith, p.before, p.place))) in
      put ∙ ap (λ n. other + n * 2 ^ skip) inner

picked_lt : (b : Bool) (x y : ℕ) → x < 2 → y < 2 → (if b then x else y) < 2
picked_lt true x y p q = p
picked_lt false x y p q = q

pub mixed_lt : (f : FieldLayout) (bit : ℕ → ℕ) (u other : ℕ) → ((i : ℕ) → bit i < 2) → mixed f bit u other < 2 ^ bits_of f.width
unfolding mixed
mixed_lt f bit u other h = number-lt (bits_of f.width) _ (λ j. picked_lt (has f (u * bits_of f.width + j)) _ _ (h _) (bit_at-lt other j))

-- where none of its bits is the field's, a unit stays
pub mixed_outside : (f : FieldLayout) (bit : ℕ → ℕ) (u other : ℕ) → other < 2 ^ bits_of f.width → ((j : ℕ) → j < bits_of f.width → has f (u * bits_of f.width + j) ≡ false) → mixed f bit u other ≡ other
unfolding mixed
mixed_outside f bit u other lt h =
    number_same (bits_of f.width) _ (bit_at other) (λ j low. ap (λ b. if b then bit (u * bits_of f.width + j - f.at) else bit_at other j) (h j low))
    ∙ number-bit_at (bits_of f.width) other ∙ mod-eq_of_lt lt

-- the code's number is the definition's
pub mixed_same : (f : FieldLayout) (bit : ℕ → ℕ) (u done skip take other part result : ℕ) → Places (bits_of f.width) f.at f.bits u done skip take → other < 2 ^ bits_of f.width → part ≡ number take (λ i. bit (done + i)) → result + (other / 2 ^ skip % 2 ^ take) * 2 ^ skip ≡ other + part * 2 ^ skip → result ≡ mixed f bit u other
mixed_same f bit u done skip take other part result p lt is put =
    let whole = mixed_is f u done skip take p bit other lt in
    let put_ = rw is at put in
    omega (arith, whole, put_)

-- one turn of the loop over the units
pub record Turn (f : FieldLayout) (reads writes u done skip take : ℕ) (whole : Bool) : Type 0 where
  pub places : Places (bits_of f.width) f.at f.bits u done skip take
  pub wholly : covers f u ≡ whole
  pub more : end f - u ≡ suc (end f - (u + 1))
  pub cost : cost_from f reads writes (end f - u) u ≡ others_cost whole f.others reads + writes + cost_from f reads writes (end f - (u + 1)) (u + 1)

pub cost_more : (f : FieldLayout) (reads writes u v k n : ℕ) (whole : Bool) → n ≡ suc k → v ≡ suc u → covers f u ≡ whole → cost_from f reads writes n u ≡ others_cost whole f.others reads + writes + cost_from f reads writes k v
cost_more f reads writes u v k n whole more next e = rw (more, next) (ap (λ w. others_cost w f.others reads + writes + cost_from f reads writes k (suc u)) e)

pub turn : (f : FieldLayout) (reads writes width u done take : ℕ) → IsLaidOut f → width ≡ bits_of f.width → first f ≤ u → u < end f → done ≡ min f.bits (u * bits_of f.width - f.at) → take ≡ min (width - (f.at + done) % width) (f.bits - done) → Turn f reads writes u done ((f.at + done) % width) take (nat_eq take width)
turn f reads writes width u done take sound is low high before is_take =
    let p = places_in f width u done take sound is low high before is_take in
    let wholly : covers f u ≡ nat_eq take width = covers_is f u done _ take p ∙ ap (nat_eq take) (sym is) in
    let more : end f - u ≡ suc (end f - (u + 1)) = omega arith in
    record { places = p; wholly = wholly; more = more; cost = cost_more f reads writes u (u + 1) (end f - (u + 1)) (end f - u) _ more (omega arith) wholly }

module _ (f : FieldLayout) (read : ℕ → M ℕ) (write : ℕ → ℕ → M (Unit {0})) (bit : ℕ → ℕ) (reads writes u done skip take : ℕ) (whole : Bool) (t : Turn f reads writes u done skip take whole) where
  covered : (r : Result ℕ Halt) (s0 s1 : State) → Runs r (others_of whole f.others (bits_of f.width) (read u)) s0 s1 → Runs r (others_of (covers f u) f.others (bits_of f.width) (read u)) s0 s1
  covered r s0 s1 runs = subst (λ w. Runs r (others_of w f.others (bits_of f.width) (read u)) s0 s1) (sym t.wholly) runs

  -- its other bits are not known
  pub write_stops : (halt : Halt) (s0 s1 : State) → Runs (Err halt) (others_of whole f.others (bits_of f.width) (read u)) s0 s1 → Runs (Err halt) (write_from f read write bit (end f - u) u) s0 s1
  write_stops halt s0 s1 before = rw t.more (runs_stop _ (covered _ _ _ before))

  module _ (other value : ℕ) (s0 s1 : State) (before : Runs (Ok other) (others_of whole f.others (bits_of f.width) (read u)) s0 s1) (is : value ≡ mixed f bit u other) where
    -- one unit is written, and then the rest
    pub write_more : (s2 : State) (r : Result (Unit {0}) Halt) (last : State) → Runs (Ok tt) (write u value) s1 s2 → Runs r (write_from f read write bit (end f - (u + 1)) (u + 1)) s2 last → Runs r (write_from f read write bit (end f - u) u) s0 last
    write_more s2 r last first rest =
        let next : u + 1 ≡ suc u = omega arith in
        rw t.more (runs_then _ (covered _ _ _ before) (runs_then _ (rw is at first) (subst (λ w. Runs r (write_from f read write bit (end f - (u + 1)) w) s2 last) next rest)))

    -- its write stops
    pub write_ends : (s2 : State) (halt : Halt) → Runs (Err halt) (write u value) s1 s2 → Runs (Err halt) (write_from f read write bit (end f - u) u) s0 s2
    write_ends s2 halt first = rw t.more (runs_then _ (covered _ _ _ before) (runs_stop _ (rw is at first)))

pub write_all : (f : FieldLayout) (read : ℕ → M ℕ) (write : ℕ → ℕ → M (Unit {0})) (bit : ℕ → ℕ) (u n : ℕ) (s : State) → n ≡ 0 → Runs (Ok tt) (write_from f read write bit n u) s s
write_all f read write bit u n s none = rw none (runs_give tt s)

-- the parts of a plan
pub plan_write : (p : UnitPlan) (f : FieldLayout) (bit : ℕ → ℕ) (u : ℕ) (r : Result (Unit {0}) Halt) (s0 s1 : State) → f ≡ p.layout → u ≡ first f → Runs r (write_from f p.read p.write bit (end f - u) u) s0 s1 → Runs r (bits_written p bit) s0 s1
unfolding bits_written count
plan_write p f bit u r s0 s1 e low runs = subst (λ g. Runs r (write_from g p.read p.write bit (end g - first g) (first g)) s0 s1) e (subst (λ v. Runs r (write_from f p.read p.write bit (end f - v) v) s0 s1) low runs)

pub plan_cost : (p : UnitPlan) (f : FieldLayout) (u left : ℕ) → f ≡ p.layout → u ≡ first f → left - cost_from f p.read_events p.write_events (end f - u) u ≡ left - plan_writes p
unfolding plan_writes count
plan_cost p f u left e low = ap (λ v. left - cost_from f p.read_events p.write_events (end f - v) v) low ∙ ap (λ g. left - cost_from g p.read_events p.write_events (end g - first g) (first g)) e

-- what stands there is read, or ones or zeros are given
module _ (others : OtherBits) (whole : Bool) (width : ℕ) (read : M ℕ) (beside : whole ≡ false) where
  pub others_kept : (r : Result ℕ Halt) (s0 s1 : State) → others ≡ Preserve → Runs r read s0 s1 → Runs r (others_of whole others width read) s0 s1
  others_kept r s0 s1 e runs = rw (e, beside) runs

  pub others_ones : (value : ℕ) (s : State) → others ≡ Ones → value ≡ 2 ^ width - 1 → Runs (Ok value) (others_of whole others width read) s s
  others_ones value s e is = rw (e, beside, is) (runs_give _ s)

  pub others_zeros : (s : State) → others ≡ Zeros → Runs (Ok 0) (others_of whole others width read) s s
  others_zeros s e = rw (e, beside) (runs_give 0 s)

pub kept_cost : (others : OtherBits) (whole : Bool) (reads : ℕ) → whole ≡ false → others ≡ Preserve → others_cost whole others reads ≡ reads
kept_cost others whole reads beside e = rw (beside, e) refl

pub ones_cost : (others : OtherBits) (whole : Bool) (reads : ℕ) → whole ≡ false → others ≡ Ones → others_cost whole others reads ≡ 0
ones_cost others whole reads beside e = rw (beside, e) refl

pub zeros_cost : (others : OtherBits) (whole : Bool) (reads : ℕ) → whole ≡ false → others ≡ Zeros → others_cost whole others reads ≡ 0
zeros_cost others whole reads beside e = rw (beside, e) refl

-- the bits beside a field cost one read of the unit at most
pub others_least : (whole : Bool) (others : OtherBits) (reads : ℕ) → others_cost whole others reads ≤ reads
others_least true others reads = omega arith
others_least false Preserve reads = omega arith
others_least false Ones reads = omega arith
others_least false Zeros reads = omega arith
