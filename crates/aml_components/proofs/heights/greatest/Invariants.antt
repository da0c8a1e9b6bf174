use Rattle.std.proofs.Common.{◌≡◌, ℕ, take}
use Rattle.std.specs.Prelude.{nat_le}
use Rattle.aml_calls.specs.Pairs.{numbers}
use Rattle.aml_components.specs.Heights.{are_low}
use Rattle.aml_components.proofs.heights.greatest.Given as goal

-- the greatest so far
abbrev pub invariant-methods : goal.invariant-methods
invariant-methods l =
    (d : ℕ) → nat_le l.most d ≡ are_low l.heights d (numbers (take l.method-index l.methods))
