-- What is kept by the numbers of paths.
use Rattle.std.specs.Prelude.{◌≡◌, ◌≤◌, ℕ, None}
use Rattle.std.specs.BTreeMap.{BTreeMap, get}
use Rattle.std.specs.Ordering.{nat_cmp}

-- numbers are kept of no more than so many paths
abbrev pub CountsWithin : BTreeMap ℕ ℕ → ℕ → Type 0
CountsWithin counts many = (n : ℕ) → many ≤ n → get nat_cmp counts n ≡ None
