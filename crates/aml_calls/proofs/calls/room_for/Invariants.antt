use Rattle.std.proofs.Common.{◌≡◌, ◌<◌, ℕ, take, true}
use Rattle.aml_calls.specs.Chains.{is_among}
use Rattle.aml_calls.specs.Pairs.{named}
use Rattle.aml_calls.proofs.calls.room_for.Given as goal

-- there is room for the named so far
abbrev pub invariant-pairs : goal.invariant-pairs
invariant-pairs l = (k : ℕ) → is_among k (named (take l.pair-index l.pairs)) ≡ true → k < l.room
