-- One more step of a list in which a dead If is looked for.
use Rattle.std.proofs.Common.{◌≡◌, ℕ, zero, suc, ◌+◌, ◌-◌, ◌≤◌, ◌<◌, List, [], length, drop, refl, sym, ◌∙◌, arith}
use Rattle.std.specs.Prelude.{Bool, true, false, nat_lt, nat_le}
use Rattle.std.proofs.lemmas.Bool.{ltb-true, leb-true}
use Rattle.std.proofs.lemmas.List.{drop-drop}
use Rattle.std.proofs.Math.ListN.{drop_of_length-le}
use Rattle.aml_externals.specs.declared.step.Step.{Step}
use Rattle.aml_externals.specs.declared.step.Step.TheVariants.{Dead, Enter, Over, Stop}
use Rattle.aml_externals.specs.Steps.{step_of}
use Rattle.aml_externals.specs.Opened.{dead_by, dead_until, dead_in}
use Rattle.aml_externals.proofs.Turns.{step_of_none}

pub not_below : (a b : ℕ) → b ≤ a → (t : Bool) → nat_lt a b ≡ t → t ≡ false
not_below a b le true e = let lt : a < b = ltb-true _ _ e in absurd (omega arith)
not_below a b le false e = refl

pub not_within : (a b : ℕ) → b < a → (t : Bool) → nat_le a b ≡ t → t ≡ false
not_within a b lt true e = let le : a ≤ b = leb-true _ _ e in absurd (omega arith)
not_within a b lt false e = refl

-- how many bytes a step goes on
abbrev pub HasSize : Step → ℕ → Type 0
HasSize (Dead size) n = size ≡ n
HasSize (Enter from size) n = size ≡ n
HasSize (Over size) n = size ≡ n
HasSize Stop n = ⊥

pub dead_deep : (d : ℕ) (bytes : List ℕ) (at : ℕ) → 0 < d → dead_in d bytes at ≡ dead_until (dead_in (d - 1)) d (length bytes) bytes at
unfolding dead_in
dead_deep zero bytes at lt = absurd (omega arith)
dead_deep (suc d) bytes at lt = let e : suc d - 1 ≡ d = omega arith in rw e

pub dead_flat : (bytes : List ℕ) (at : ℕ) → dead_in 0 bytes at ≡ false
unfolding dead_in
dead_flat bytes at = refl

module _ (below : List ℕ → ℕ → Bool) where
  past_by : (rest : List ℕ → ℕ → Bool) (bytes : List ℕ) (at size : ℕ) (s : Step) → HasSize s size → size ≤ at → dead_by below rest bytes at s ≡ rest (drop size bytes) (at - size)
  past_by rest bytes at size (Dead n) h le = let t : nat_lt at n ≡ false = not_below at n (omega (arith, h)) (nat_lt at n) refl in rw (t, h)
  past_by rest bytes at size (Enter from n) h le = let t : nat_lt at n ≡ false = not_below at n (omega (arith, h)) (nat_lt at n) refl in rw (t, h)
  past_by rest bytes at size (Over n) h le = let t : nat_lt at n ≡ false = not_below at n (omega (arith, h)) (nat_lt at n) refl in rw (t, h)
  past_by rest bytes at size Stop h le = absurd h

  -- the place stands behind this step
  pub past_on : (d n : ℕ) (list : List ℕ) (at left size : ℕ) (s : Step) (whole : Bool) → step_of d (drop at list) ≡ s → HasSize s size → 0 < size → at < length list → length list ≤ at + n → size ≤ left
      → whole ≡ dead_until below d n (drop at list) left
      → (m : ℕ) × (length list ≤ at + size + m) × (whole ≡ dead_until below d m (drop (at + size) list) (left - size))
  past_on d zero list at left size s whole is has ahead within le past e = absurd (omega arith)
  past_on d (suc m) list at left size s whole is has ahead within le past e =
      let f : whole ≡ dead_by below (dead_until below d m) (drop at list) left s = rw is at e in
      let p : dead_by below (dead_until below d m) (drop at list) left s ≡ dead_until below d m (drop size (drop at list)) (left - size) = past_by (dead_until below d m) (drop at list) left size s has past in
      let g : whole ≡ dead_until below d m (drop size (drop at list)) (left - size) = f ∙ p in
      let q : drop size (drop at list) ≡ drop (at + size) list = drop-drop size at list in
      (m, omega arith, rw q at g)

  -- this step has the place
  pub here_on : (d n : ℕ) (list : List ℕ) (at left : ℕ) (s : Step) (whole : Bool) → step_of d (drop at list) ≡ s → at < length list → length list ≤ at + n
      → whole ≡ dead_until below d n (drop at list) left
      → (rest : List ℕ → ℕ → Bool) × (whole ≡ dead_by below rest (drop at list) left s)
  here_on d zero list at left s whole is within le e = absurd (omega arith)
  here_on d (suc m) list at left s whole is within le e = (dead_until below d m, rw is at e)

  pub none_on : (d n : ℕ) (list : List ℕ) (left : ℕ) (whole : Bool) → step_of d list ≡ Stop → whole ≡ dead_until below d n list left → false ≡ whole
  none_on d zero list left whole is e = sym e
  none_on d (suc n) list left whole is e = sym (rw is at e)

  pub end_on : (d n : ℕ) (list : List ℕ) (at left : ℕ) (whole : Bool) → length list ≤ at → whole ≡ dead_until below d n (drop at list) left → false ≡ whole
  end_on d n list at left whole le e =
      let none : drop at list ≡ [] = drop_of_length-le list le in
      let is : step_of d (drop at list) ≡ Stop = rw none (step_of_none d) in
      none_on d n (drop at list) left whole is e
