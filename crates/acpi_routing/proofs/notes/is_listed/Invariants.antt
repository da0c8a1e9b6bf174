use Rattle.std.proofs.Common.{◌≡◌, drop}
use Rattle.acpi_resources.specs.Interrupts.{crs_of_links}
use Rattle.acpi_routing.specs.Notes.{is_listed}
use Rattle.acpi_routing.proofs.notes.is_listed.Given as goal

-- it is not among those before
abbrev pub invariant-loop-link : goal.invariant-loop-link
invariant-loop-link l = is_listed (crs_of_links l.links) l.device ≡ is_listed (crs_of_links (drop l.link-index l.links)) l.device
