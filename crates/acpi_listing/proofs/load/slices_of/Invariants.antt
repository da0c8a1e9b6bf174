use Rattle.std.proofs.Common.{◌≡◌, map, take, vec_items}
use Rattle.aml_namespace.specs.Shows.{bytes_in}
use Rattle.acpi_listing.proofs.load.slices_of.Given as goal

-- the slices are the files before
abbrev pub invariant-loop-file : goal.invariant-loop-file
invariant-loop-file l = bytes_in l.slices.items ≡ map vec_items (take l.file-index l.files)
