use Rattle.std.proofs.Common.{drop}
use Rattle.std.specs.List.{flat_map}
use Rattle.acpi_text.specs.Names.{entry_line, names_text}
use Rattle.acpi_text.proofs.Listing.{Listed}
use Rattle.aml_namespace.specs.Shows.{shown}
use Rattle.acpi_text.proofs.names.list_names.Given as goal

-- the lines before were appended, and those of the other paths are left
abbrev pub invariant-loop-number : goal.invariant-loop-number
invariant-loop-number g l =
    let ns = shown l.namespace in
    Listed (names_text ns) (flat_map (entry_line ns) (drop l.number ns.entries))
    (g.W.Write.contents l.initial.out) (g.W.Write.contents l.out)
