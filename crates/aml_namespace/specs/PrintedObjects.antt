-- The objects of paths as they are printed.
use Rattle.std.specs.Prelude.{ℕ, List, Option, option_and_then}
use Rattle.aml_objects.specs.Entries.{Entries}
use Rattle.aml_namespace.specs.Names.{found}
use Rattle.aml_paths.specs.Printed.{path_in}

-- the number of the object whose path, or an alias's, a text prints
abbrev pub printed_object : Entries → List ℕ → Option ℕ
printed_object entries text = option_and_then (found entries) (path_in text)
