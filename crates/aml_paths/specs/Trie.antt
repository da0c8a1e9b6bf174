-- Paths that are kept as steps: the root first, and then one path a step.
use Rattle.std.specs.Prelude.{◌≡◌, ◌≤◌, ℕ, suc, List, [], ◌∷◌, ◌++◌, Some, slice_get}
use Rattle.std.specs.BTreeMap.{BTreeMap, get}
use Rattle.std.specs.Ordering.{nat_cmp, ordering_then}
use Rattle.std.specs.declared.cmp.Ordering.{Ordering}
use Rattle.aml_lex.specs.declared.names.NameSeg.{NameSeg}
use Rattle.aml_lex.specs.Order.{segment_order}
use Rattle.aml_paths.specs.declared.place.Place.{Place}
use Rattle.aml_paths.specs.declared.paths.Step.{Step}
use Rattle.aml_paths.specs.Chains.{AreChained, number_below_chain, spots_of}
use Rattle.aml_paths.specs.Paths.{Path, root, path_at, AreDistinct}

-- by the chain, and then by the segment and the depth
abbrev pub place_order : Place → Place → Ordering
place_order a b = ordering_then (nat_cmp a.top b.top)
    (ordering_then (segment_order a.segment b.segment) (nat_cmp a.depth b.depth))

-- the path to which a step leads
abbrev pub path_of : List Path → Step → Path
path_of paths step = path_at paths step.parent ++ step.segment.bytes ∷ []

-- some paths, and behind them those to which steps lead
abbrev pub paths_from : List Path → List Step → List Path
paths_from paths [] = paths
paths_from paths (step ∷ steps) = paths_from (paths ++ path_of paths step ∷ []) steps

abbrev pub paths_of : List Step → List Path
paths_of steps = paths_from (root ∷ []) steps

-- each step leads from a path before it to the path with the step's number
abbrev pub LeadTo : List Step → List Path → Type 0
LeadTo steps paths = (i : ℕ) (step : Step) → slice_get steps i ≡ Some step →
    (step.parent ≤ i) × (slice_get paths (suc i) ≡ Some (path_of paths step))

-- the map has the number of each path that is one segment below another, and no other number
abbrev pub HasPlaceNumbers : BTreeMap Place ℕ → List Step → List Path → Type 0
HasPlaceNumbers numbers steps paths = (segment : NameSeg) (top depth : ℕ) →
    get place_order numbers (record { segment = segment; top = top; depth = depth }) ≡
    number_below_chain paths (spots_of steps) top segment.bytes depth

-- what the map of numbers and the steps hold of the paths that they make
pub record IsTrie (numbers : BTreeMap Place ℕ) (steps : List Step)
    (paths : List Path) : Type 0 where
  pub leads : LeadTo steps paths
  pub distinct : AreDistinct paths
  pub chained : AreChained (spots_of steps) paths
  pub known : HasPlaceNumbers numbers steps paths

abbrev pub AreNumbered : BTreeMap Place ℕ → List Step → Type 0
AreNumbered numbers steps = IsTrie numbers steps (paths_of steps)
