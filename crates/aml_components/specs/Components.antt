-- Which methods reach each other, as marks of methods tell it.
use Rattle.std.specs.Prelude.{◌≡◌, ◌==◌, ℕ, List, Bool, true}
use Rattle.aml_calls.specs.Chains.{is_among, Reaches}
use Rattle.aml_calls.specs.Pairs.{AnswersReach, calls_in, Pair}
use Rattle.aml_components.specs.declared.components.Components.{Components}
use Rattle.aml_components.specs.declared.search.Mark.{Mark}
use Rattle.aml_components.specs.declared.search.Mark.TheVariants.{Closed}
use Rattle.aml_components.specs.Search.{mark_at}

-- components of two methods have the same number; without components they are the same method
abbrev pub are_one : Mark → Mark → Bool → Bool
are_one (Closed n) (Closed m) same = n == m
are_one m n same = same

abbrev pub are_together : Components → ℕ → ℕ → Bool
are_together c i j = are_one (mark_at c.marks.items i) (mark_at c.marks.items j) (i == j)

-- two methods are together just where chains lead from each to the other; of a call that tells
-- whether the callee reaches the caller
pub record AreComponents (pairs : List Pair) (c : Components) : Type 0 where
  pub reach : (i j : ℕ) → are_together c i j ≡ true →
      Reaches (calls_in pairs) i j × Reaches (calls_in pairs) j i
  pub together : (i j : ℕ) → Reaches (calls_in pairs) i j → Reaches (calls_in pairs) j i →
      are_together c i j ≡ true
  pub returns : (k j : ℕ) → is_among j (calls_in pairs k) ≡ true →
      AnswersReach pairs j k (are_together c j k)
