-- What is known while the methods are gathered that a method reaches.
use Rattle.std.specs.Prelude.{◌≡◌, ◌<◌, ◌≤◌, ◌+◌, ◌||◌, ℕ, List, length, slice_get, unwrap_or, count_by, not, Bool, true, false}
use Rattle.aml_calls.specs.declared.reach.Spread.{Spread}
use Rattle.aml_calls.specs.Chains.{is_among, Reaches}
use Rattle.aml_calls.specs.Pairs.{numbers}

abbrev pub is_seen : List Bool → ℕ → Bool
is_seen seen k = unwrap_or (slice_get seen k) false

-- what is seen is reached, and calls only what is seen, unless it waits
pub record IsSpread (calls : ℕ → List ℕ) (all : List ℕ) (from : ℕ) (seen : List Bool)
    (waiting : List ℕ) : Type 0 where
  pub room : (k : ℕ) → is_among k all ≡ true → k < length seen
  pub begins : is_seen seen from ≡ true
  pub reached : (k : ℕ) → is_seen seen k ≡ true → Reaches calls from k
  pub waits : (k : ℕ) → is_among k waiting ≡ true → is_seen seen k ≡ true
  pub closed : (k j : ℕ) → is_seen seen k ≡ true → is_among k waiting ≡ false →
      is_among j (calls k) ≡ true → is_seen seen j ≡ true

abbrev pub SpreadsOn : (ℕ → List ℕ) → List ℕ → ℕ → List ℕ → Spread → Type 0
SpreadsOn calls all from waiting s = IsSpread calls all from s.seen.items waiting

-- how much is left to do
abbrev pub work : List Bool → List ℕ → ℕ
work seen waiting = count_by not seen + length waiting

-- some methods are seen too, and those that were new wait
pub record Looked (row : List ℕ) (seen : List Bool) (waiting : List ℕ) (seen' : List Bool)
    (waiting' : List ℕ) : Type 0 where
  pub sized : length seen' ≡ length seen
  pub sees : (j : ℕ) → is_seen seen' j ≡ (is_seen seen j || is_among j row)
  pub waits : (j : ℕ) → is_among j waiting' ≡ true → (is_among j waiting || is_among j row) ≡ true
  pub kept : (j : ℕ) → is_among j waiting ≡ true → is_among j waiting' ≡ true
  pub fresh : (j : ℕ) → is_seen seen j ≡ false → is_among j row ≡ true → is_among j waiting' ≡ true
  pub less : work seen' waiting' ≤ work seen waiting

abbrev pub LooksAt : List ℕ → Spread → Spread → Type 0
LooksAt row old new =
    Looked row old.seen.items (numbers old.waiting.items) new.seen.items (numbers new.waiting.items)
