-- Chains of paths: on each a path stands one segment below the one before it.
use Rattle.std.specs.Prelude.{◌≡◌, ◌<◌, ◌≤◌, ◌⊎◌, ◌&&◌, ℕ, suc, Bool, List, [], ◌∷◌, length, map, take, slice_get, position, nat_eq, Option, Some, None, option_and_then}
use Rattle.aml_paths.specs.declared.chains.Spot.{Spot}
use Rattle.aml_paths.specs.declared.paths.Step.{Step}
use Rattle.aml_paths.specs.Paths.{Path, path_at, path_number, number_below}

-- where the root stands, and each path to which a step leads
abbrev pub root_spot : Spot
root_spot = record { top = 0; depth = 0; changes = 0 }

abbrev pub spots_of : List Step → List Spot
spots_of steps = root_spot ∷ map (λ (step : Step). step.spot) steps

-- the number of the path with so many segments on the chain with a top
abbrev pub stands_at : ℕ → ℕ → Spot → Bool
stands_at top depth spot = nat_eq top spot.top && nat_eq depth spot.depth

abbrev pub number_on_chain : List Spot → ℕ → ℕ → Option ℕ
number_on_chain spots top depth = position (stands_at top depth) spots

-- the number of the path of a segment below it
abbrev pub number_below_chain : List Path → List Spot → ℕ → List ℕ → ℕ → Option ℕ
number_below_chain paths spots top segment depth =
    option_and_then (λ parent. number_below paths parent (segment ∷ []))
    (number_on_chain spots top depth)

-- on a path's chain stand those that begin it, from the chain's top on
pub record StandsOnChain (paths : List Path) (spots : List Spot) (number : ℕ)
    (spot : Spot) : Type 0 where
  pub depth : spot.depth ≡ length (path_at paths number)
  pub within : spot.depth ≤ number
  pub top : spot.top ≤ number
  pub top_begins : take (length (path_at paths spot.top))
      (path_at paths number) ≡ path_at paths spot.top
  pub begins : (k : ℕ) → length (path_at paths spot.top) ≤ k → k ≤ spot.depth →
      number_on_chain spots spot.top k ≡ path_number paths (take k (path_at paths number))
  pub above : (k : ℕ) → k < length (path_at paths spot.top) →
      number_on_chain spots spot.top k ≡ None

abbrev pub AreChained : List Spot → List Path → Type 0
AreChained spots paths = (number : ℕ) (spot : Spot) → slice_get spots number ≡ Some spot →
    StandsOnChain paths spots number spot

-- no path on the chain is longer than the one at this spot
abbrev pub EndsAt : List Spot → Spot → Type 0
EndsAt spots spot = (k : ℕ) → spot.depth < k → number_on_chain spots spot.top k ≡ None

-- a path whose number is kept as that of its chain's last is the last
abbrev pub AreLasts : List ℕ → List Spot → Type 0
AreLasts lasts spots = (number : ℕ) (spot : Spot) → slice_get spots number ≡ Some spot →
    slice_get lasts spot.top ≡ Some number → EndsAt spots spot

-- where a path may stand that is made one segment below another: on a chain of its own, or on the
-- other's if that ends there
abbrev pub CanFollow : List Spot → Spot → Spot → Type 0
CanFollow spots above spot = (spot.depth ≡ suc above.depth)
    × ((spot.top ≡ length spots) ⊎ ((spot.top ≡ above.top) × EndsAt spots above))
