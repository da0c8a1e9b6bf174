-- The paths of a namespace, by their numbers.
use Rattle.std.specs.Prelude.{ℕ, unwrap_or}
use Rattle.aml_objects.specs.Entries.{Entries, path_numbered}
use Rattle.aml_paths.specs.Paths.{Path, root}

-- the path with a number; the root's behind the last
abbrev pub path_of : Entries → ℕ → Path
path_of entries number = unwrap_or (path_numbered entries number) root
