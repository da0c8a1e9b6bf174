-- A search that visits a method.
use Rattle.std.proofs.Common.{◌≡◌, ℕ, List, []}
use Rattle.std.specs.Prelude.{true, false}
use Rattle.aml_calls.specs.Chains.{is_among}
use Rattle.aml_calls.specs.declared.order.Search.{Search}
use Rattle.aml_calls.specs.Search.{is_new, Keeps, mark_at, Searches}

-- it has gone on
pub record IsOn (calls : ℕ → List ℕ) (all : List ℕ) (old now : Search) : Type 0 where
  pub searches : Searches calls all now
  pub keeps : Keeps old.marks.items now.marks.items

-- it has visited some methods
pub record HasVisited (calls : ℕ → List ℕ) (all some : List ℕ) (s : Search) : Type 0 where
  pub searches : Searches calls all s
  pub ended : s.path.items ≡ []
  pub begun : (k : ℕ) → is_among k some ≡ true → is_new (mark_at s.marks.items k) ≡ false
