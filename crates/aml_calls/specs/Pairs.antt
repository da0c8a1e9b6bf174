-- Which methods call which, by pairs of a method and those that it calls.
use Rattle.std.specs.Prelude.{Vec, ◌≡◌, ◌==◌, ◌||◌, ℕ, List, [], ◌∷◌, ◌++◌, map, slice_get, Option, Some, None, Bool, true, false, if◌then◌else◌}
use Rattle.std.specs.declared.alloc.Global.{Global}
use Rattle.aml_paths.specs.declared.scope.ObjectId.{ObjectId}
use Rattle.aml_calls.specs.Chains.{Cycles, has_cycle, is_among, IsBehindCallees, NeverCycles, TellsReach}

-- a method and those that it calls
abbrev pub Pair : Type 0
Pair = ObjectId × Vec ObjectId Global

abbrev pub numbers : List ObjectId → List ℕ
numbers ids = map (λ id. id.0) ids

-- the methods that pairs name: each pair's, and those that it calls
abbrev pub named_by : Pair → List ℕ
named_by p = p.0.0 ∷ numbers p.1.items

abbrev pub named : List Pair → List ℕ
named [] = []
named (p ∷ ps) = named_by p ++ named ps

-- which methods a method calls: those of its first pair, and none where it has no pair
abbrev pub calls_in : List Pair → ℕ → List ℕ
calls_in [] k = []
calls_in (p ∷ ps) k = if p.0.0 == k then numbers p.1.items else calls_in ps k

-- of the methods that pairs name, those from which no chain has a cycle, each once and behind all
-- that it calls, and the others, each once
pub record IsCallOrder (pairs : List Pair) (ordered others : List ℕ) : Type 0 where
  pub behind : IsBehindCallees (calls_in pairs) [] ordered
  pub never : (k : ℕ) → is_among k ordered ≡ true → NeverCycles (calls_in pairs) k
  pub cycles : (k : ℕ) → is_among k others ≡ true → Cycles (calls_in pairs) k
  pub once : has_cycle others ≡ false
  pub all : (k : ℕ) → is_among k (named pairs) ≡ true →
      (is_among k ordered || is_among k others) ≡ true
  pub only : (k : ℕ) → (is_among k ordered || is_among k others) ≡ true →
      is_among k (named pairs) ≡ true

-- the answer of asking for a chain
abbrev pub AnswersReach : List Pair → ℕ → ℕ → Bool → Type 0
AnswersReach pairs = TellsReach (calls_in pairs)

-- what a table of places by methods' numbers says of each method's callees
abbrev pub callees : Option Pair → List ℕ
callees None = []
callees (Some p) = numbers p.1.items

abbrev pub callees_at : List Pair → Option ℕ → List ℕ
callees_at pairs None = []
callees_at pairs (Some i) = callees (slice_get pairs i)

abbrev pub PlacesAre : List Pair → List ℕ → Type 0
PlacesAre pairs places = (k : ℕ) → callees_at pairs (slice_get places k) ≡ calls_in pairs k
