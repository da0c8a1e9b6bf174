-- How long the longest chains of calls are, as a table keeps it by methods' numbers.
use Rattle.std.specs.Prelude.{◌≡◌, ◌<◌, ◌≤◌, ℕ, List, [], length, slice_get, unwrap_or, nat_le, Bool, true, false, if◌then◌else◌}
use Rattle.std.specs.List.{list_all}
use Rattle.aml_components.specs.declared.heights.Heights.{Heights}
use Rattle.aml_calls.specs.Chains.{is_among, IsBehindCallees, is_short}
use Rattle.aml_calls.specs.Pairs.{calls_in, Pair}

-- kept of chains of more than 64 methods, and of those with a cycle
abbrev pub too_long : ℕ
too_long = 65

-- how long the longest chain is that begins with a method
abbrev pub height_at : List ℕ → ℕ → ℕ
height_at heights k = unwrap_or (slice_get heights k) 1

-- no chain that begins with one of some methods is longer
abbrev pub are_low : List ℕ → ℕ → List ℕ → Bool
are_low heights d ks = list_all (λ j. nat_le (height_at heights j) d) ks

-- what a table says of a method's chains is so
abbrev pub Tells : (ℕ → List ℕ) → List ℕ → ℕ → Type 0
Tells calls heights k = (d : ℕ) → d < too_long → nat_le (height_at heights k) d ≡ is_short calls d k

-- some methods have too long chains, and the others call none
pub record BeginsWith (endless : List ℕ) (room : ℕ) (heights : List ℕ) : Type 0 where
  pub sized : length heights ≡ room
  pub are : (k : ℕ) → height_at heights k ≡ (if is_among k endless then too_long else 1)

-- methods stand behind those that they call; a table has room for them and is right of all others
pub record MayRaise (calls : ℕ → List ℕ) (ordered heights : List ℕ) : Type 0 where
  pub room : (k : ℕ) → is_among k ordered ≡ true → k < length heights
  pub behind : IsBehindCallees calls [] ordered
  pub others : (k : ℕ) → is_among k ordered ≡ false → Tells calls heights k

-- whether each chain that begins with a method has at most so many
abbrev pub is_short_in : Heights → ℕ → ℕ → Bool
is_short_in h d k = nat_le (height_at h.heights.items k) d

-- up to 64 the answers are those of the definition
abbrev pub AreHeights : List Pair → Heights → Type 0
AreHeights pairs h = (d k : ℕ) → d ≤ 64 → is_short_in h d k ≡ is_short (calls_in pairs) d k
