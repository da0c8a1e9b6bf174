-- What stands under numbers, where something is put under one.
use Rattle.std.proofs.Common.{◌≡◌, ◌≢◌, ◌<◌, ◌≤◌, ℕ, List, length, set, slice_get, Option, Some, None, ◌⊎◌, inl, inr, sym, ◌∙◌, arith}
use Rattle.std.proofs.lemmas.List.{get_or-set_other, get_or-set_same, get_or_past, length-set}
use Rattle.std.proofs.lemmas.Option.{unwrap_or-slice_get}
use Rattle.std.specs.Prelude.{unwrap_or}

pub below_or_past : (a b : ℕ) → (a < b) ⊎ (b ≤ a)
below_or_past a b = grind arith

module _ {T : Type 0} (nothing : T) where
  abbrev pub under : List T → ℕ → T
  under places k = unwrap_or (slice_get places k) nothing

  -- past the end is nothing
  pub past : (places : List T) (k : ℕ) → length places ≤ k → under places k ≡ nothing
  past places k le = unwrap_or-slice_get places k nothing ∙ get_or_past places k nothing le

  module _ (places : List T) (k : ℕ) (one : T) where
    -- what is put under a number that has a place stands there
    pub put_same : k < length places → under (set places k one) k ≡ one
    put_same lt = unwrap_or-slice_get (set places k one) k nothing ∙ get_or-set_same places k one nothing lt

    -- under the others all stays
    pub put_other : (i : ℕ) → i ≢ k → under (set places k one) i ≡ under places i
    put_other i other =
        unwrap_or-slice_get (set places k one) i nothing ∙ get_or-set_other places k i one nothing other
        ∙ sym (unwrap_or-slice_get places i nothing)

    -- under a number past the end nothing is put
    pub put_past : length places ≤ k → under (set places k one) k ≡ nothing
    put_past le = past (set places k one) k (let long = length-set places k one in omega (arith, long, le))

pub not_both : {T : Type 0} (o : Option T) (one : T) → o ≡ Some one → o ≡ None → ⊥
not_both None one e f = absurd cc
not_both (Some x) one e f = absurd cc

-- what stands under a number where something was put is that
pub put_is : {T : Type 0} (places : List (Option T)) (k : ℕ) (one : Option T) (x : T) → under None (set places k one) k ≡ Some x → one ≡ Some x
put_is places k one x e = by (below_or_past k (length places))
  where
    by : (k < length places) ⊎ (length places ≤ k) → one ≡ Some x
    by (inl lt) = sym (put_same None places k one lt) ∙ e
    by (inr le) = absurd (not_both (under None (set places k one) k) x e (put_past None places k one le))
