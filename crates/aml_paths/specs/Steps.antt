-- The paths that the program keeps, as their numbers count them.
use Rattle.std.specs.Prelude.{◌≡◌, ◌<◌, ◌-◌, List, [], ◌∷◌, ◌++◌, length, map, take, Option, Some, None}
use Rattle.aml_lex.specs.declared.names.NameSeg.{NameSeg}
use Rattle.aml_paths.specs.declared.paths.Paths.{Paths}
use Rattle.aml_paths.specs.declared.resolve.Lead.{Lead}
use Rattle.aml_paths.specs.declared.resolve.Lead.TheVariants.{Nowhere, At, Below}
use Rattle.aml_paths.specs.Paths.{Path, path_at, path_number}
use Rattle.aml_paths.specs.Trie.{paths_of}

abbrev pub paths_seen : Paths → List Path
paths_seen paths = paths_of paths.steps.items

-- the path of these segments
abbrev pub path_seen : List NameSeg → Path
path_seen segments = map (λ (segment : NameSeg). segment.bytes) segments

-- where a path stands: above the root or below what is missing, under a number, or a segment below
-- the path with a number
abbrev pub LeadsTo : List Path → Lead → Option Path → Type 0
LeadsTo paths Nowhere None = Unit {0}
LeadsTo paths Nowhere (Some path) = path_number paths (take (length path - 1) path) ≡ None
LeadsTo paths (At n) path = (n < length paths) × (path ≡ Some (path_at paths n))
LeadsTo paths (Below n segment) path =
    (n < length paths) × (path ≡ Some (path_at paths n ++ segment.bytes ∷ []))
