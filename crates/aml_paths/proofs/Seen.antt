-- What holds of the paths that the program keeps.
use Rattle.std.proofs.Common.{◌≡◌, ℕ, List, [], ◌∷◌, ◌++◌, slice_get, Some, subst, sym}
use Rattle.aml_paths.specs.declared.paths.Paths.{Paths}
use Rattle.aml_paths.specs.Paths.{Path, root, AreDistinct, AreClosed}
use Rattle.aml_paths.specs.Steps.{paths_seen}
use Rattle.aml_paths.proofs.Positions.{slice_get_left}
use Rattle.aml_paths.proofs.Tries.{length-paths_of, root_first, paths_closed}

-- no path stands twice
pub seen_distinct : (paths : Paths) → AreDistinct (paths_seen paths)
seen_distinct paths = paths.numbered.distinct

-- with a path stands each that begins it
pub seen_closed : (paths : Paths) → AreClosed (paths_seen paths)
seen_closed paths =
    let steps = paths.steps.items in
    paths_closed steps (paths_seen paths) (length-paths_of steps) (root_first steps) paths.numbered.leads

-- the root's number is 0
pub seen_root : (paths : Paths) → slice_get (paths_seen paths) 0 ≡ Some root
seen_root paths = root_first paths.steps.items

-- with one path more, each earlier number is that of the same path
pub earlier_paths_stay : (old new : List Path) (added : Path) (i : ℕ) (path : Path) → new ≡ old ++ added ∷ [] → slice_get old i ≡ Some path → slice_get new i ≡ Some path
earlier_paths_stay old new added i path is there = subst (λ (paths : List Path). slice_get paths i ≡ Some path) (sym is) (slice_get_left old (added ∷ []) i path there)
