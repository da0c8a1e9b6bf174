use Rattle.std.proofs.Common.{◌≡◌, ℕ, None, length, slice_get, unwrap_or}
use Rattle.aml_methods.proofs.by_number.nothing_yet.Given as goal

-- so many are there, and nothing stands at any
abbrev pub invariant-loop : goal.invariant-loop
invariant-loop g l = (length l.places.items ≡ l.counter) × ((k : ℕ) → unwrap_or (slice_get l.places.items k) None ≡ None)
