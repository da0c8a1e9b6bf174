-- What the program keeps of declarations.
use Rattle.std.specs.Prelude.{◌≡◌, ℕ, List, take, slice_get, Option, Some, option_and_then}
use Rattle.std.specs.Option.{option_or}
use Rattle.std.specs.BTreeMap.{get}
use Rattle.std.specs.Ordering.{nat_cmp}
use Rattle.aml_arities.specs.declared.counted.Counted.{Counted}
use Rattle.aml_arities.specs.declared.external.External.{External}
use Rattle.aml_arities.specs.Told.{first_told, told_under}
use Rattle.aml_paths.specs.Paths.{Path, path_number}
use Rattle.aml_paths.specs.Steps.{paths_seen}

abbrev pub all_paths : Counted → List Path
all_paths c = paths_seen c.paths

-- the namespace's paths
abbrev pub named_paths : Counted → List Path
named_paths c = take c.named (all_paths c)

-- the number of arguments that is told of a path
abbrev pub told : Counted → Path → Option ℕ
told c path = option_and_then (get nat_cmp c.counts) (path_number (all_paths c) path)

-- with more paths, those that were there stay, and nothing more is told
pub record Stays (old new : Counted) : Type 0 where
  pub told_is : (path : Path) → told new path ≡ told old path
  pub named_are : named_paths new ≡ named_paths old
  pub paths_stay : (i : ℕ) (path : Path) → slice_get (all_paths old) i ≡ Some path →
      slice_get (all_paths new) i ≡ Some path

-- what is told of a path more, where nothing was
pub record Tells (old new : Counted) (path : Option Path) (args : ℕ) : Type 0 where
  pub told_is : (p : Path) → told new p ≡ option_or (told old p) (told_under path args p)
  pub named_are : named_paths new ≡ named_paths old

-- of the paths that declarations spell, just what the first of each tells
pub record TellsAll (tables : List (List ℕ)) (paths : List Path) (externals : List External)
    (c : Counted) : Type 0 where
  pub named_are : named_paths c ≡ paths
  pub told_is : (path : Path) → told c path ≡ first_told tables paths externals path
