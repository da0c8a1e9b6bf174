-- The objects of texts that print paths.
use Rattle.std.proofs.Common.{◌≡◌, ℕ, List, Option, Some, None, refl, option_and_then}
use Rattle.aml_paths.specs.Paths.{Path}
use Rattle.aml_paths.specs.Printed.{path_in}
use Rattle.aml_namespace.specs.PrintedObjects.{printed_object}
use Rattle.aml_objects.specs.Entries.{Entries, number_of, object_number}
use Rattle.aml_namespace.specs.Names.{found}

found_of : (entries : Entries) (path : Option Path) → option_and_then (found entries) path ≡ option_and_then (object_number entries) (option_and_then (number_of entries) path)
found_of entries None = refl
found_of entries (Some path) = refl

-- the object of a printed path, by its number
pub found_printed : (entries : Entries) (text : List ℕ) → printed_object entries text ≡ option_and_then (object_number entries) (option_and_then (number_of entries) (path_in text))
found_printed entries text = found_of entries (path_in text)
