-- Chains of methods in which each calls the next, by a function from a method's number to those
-- that it calls (ACPI 6.5, 5.5.2 and 19.6, Method; the limit on chains is the project's own).
use Rattle.std.specs.Prelude.{◌≡◌, ◌==◌, ◌||◌, ◌≤◌, ℕ, zero, suc, length, List, [], ◌∷◌, Bool, true, false}
use Rattle.std.specs.List.{list_all, list_any}

abbrev pub is_among : ℕ → List ℕ → Bool
is_among j ks = list_any (λ k. j == k) ks

-- whether a method comes twice
abbrev pub has_cycle : List ℕ → Bool
has_cycle [] = false
has_cycle (k ∷ ks) = is_among k ks || has_cycle ks

-- where a chain that begins with a method ends
abbrev pub end_of : ℕ → List ℕ → ℕ
end_of k [] = k
end_of k (j ∷ js) = end_of j js

module _ (calls : ℕ → List ℕ) where
  -- whether a method calls the first of others, if there are any
  abbrev pub CallsNext : ℕ → List ℕ → Type 0
  CallsNext k [] = Unit {0}
  CallsNext k (j ∷ js) = is_among j (calls k) ≡ true

  abbrev pub IsChain : List ℕ → Type 0
  IsChain [] = Unit {0}
  IsChain (k ∷ ks) = CallsNext k ks × IsChain ks

  -- no chain that begins with a method has a cycle
  pub record NeverCycles (k : ℕ) : Type 0 where
    pub never : (ks : List ℕ) → IsChain (k ∷ ks) → has_cycle (k ∷ ks) ≡ false

  -- one has
  pub record Cycles (k : ℕ) : Type 0 where
    pub behind : List ℕ
    pub chain : IsChain (k ∷ behind)
    pub twice : has_cycle (k ∷ behind) ≡ true

  -- a chain begins with one method and ends with another
  pub record Reaches (from to : ℕ) : Type 0 where
    pub behind : List ℕ
    pub chain : IsChain (from ∷ behind)
    pub ends : end_of from behind ≡ to

  -- the answer to whether one does
  abbrev pub TellsReach : ℕ → ℕ → Bool → Type 0
  TellsReach from to true = Reaches from to
  TellsReach from to false = Reaches from to → ⊥

  -- each chain that begins with a method has at most so many
  unfoldable pub is_short : ℕ → ℕ → Bool
  is_short zero k = false
  is_short (suc d) k = list_all (is_short d) (calls k)

  -- the longest chain that begins with a method has so many
  pub record IsLongest (k n : ℕ) : Type 0 where
    pub short : is_short n k ≡ true
    pub long : (d : ℕ) → suc d ≤ n → is_short d k ≡ false

  -- each method stands once and behind all that it calls, where some stand before
  abbrev pub IsBehindCallees : List ℕ → List ℕ → Type 0
  IsBehindCallees done [] = Unit {0}
  IsBehindCallees done (k ∷ ks) = (list_all (λ j. is_among j done) (calls k) ≡ true)
      × (is_among k done ≡ false) × IsBehindCallees (k ∷ done) ks

-- what is short has no longer chain, and what is not has one; from a method that is short no chain
-- has a cycle, and a method from which a chain has one is never short
pub record ShortSays (calls : ℕ → List ℕ) : Type 0 where
  pub no_longer : (d k : ℕ) (ks : List ℕ) → is_short calls d k ≡ true → IsChain calls (k ∷ ks) →
      length (k ∷ ks) ≤ d
  pub longer : (d k : ℕ) → is_short calls d k ≡ false →
      (ks : List ℕ) × (IsChain calls (k ∷ ks) × (length (k ∷ ks) ≡ suc d))
  pub no_cycle : (d k : ℕ) → is_short calls d k ≡ true → NeverCycles calls k
  pub cycle : (d k : ℕ) → Cycles calls k → is_short calls d k ≡ false

abbrev pub ChainsAreCounted : Type 0
ChainsAreCounted = (calls : ℕ → List ℕ) → ShortSays calls
