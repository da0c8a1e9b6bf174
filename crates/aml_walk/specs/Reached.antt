-- Which statement a body's steps become too many with: for people, no rule asks.
use Rattle.std.specs.Prelude.{ℕ, nat_le, nat_lt, Option, Some, None, if◌then◌else◌, unwrap_or}
use Rattle.aml_judged.specs.Verdicts.{most_steps}

-- the statement at a place, where the steps of its block are as many before it and as many with it:
-- with it they reach 2^63, or with one within it, which was told then. What was told before it
-- stays; what was told within it does not stay, where the steps of its block are fewer, as those of
-- a loop that never turns
abbrev pub reached_with : Option ℕ → Option ℕ → ℕ → ℕ → ℕ → Option ℕ
reached_with (Some was) inner at before after = Some was
reached_with None inner at before after =
    if nat_lt before most_steps
    then (if nat_le most_steps after then Some (unwrap_or inner at) else None) else None
