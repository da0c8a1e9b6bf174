use Rattle.std.proofs.Common.{◌≡◌, ◌≤◌, ℕ, List, drop, length}
use Rattle.std.specs.Prelude.{slice_get}
use Rattle.aml_calls.specs.Pairs.{callees_at, calls_in, Pair}
use Rattle.aml_calls.proofs.calls.places_of.Given as goal

-- the places of the pairs from one on
pub record Placed (pairs : List Pair) (places : List ℕ) (room i : ℕ) : Type 0 where
  pub sized : length places ≡ room
  pub within : i ≤ length pairs
  pub are : (k : ℕ) → callees_at pairs (slice_get places k) ≡ calls_in (drop i pairs) k

abbrev pub invariant-places : goal.invariant-places
invariant-places l = Placed l.pairs l.places.items l.room l.i

abbrev pub decreases-places : goal.decreases-places
decreases-places l = l.i
