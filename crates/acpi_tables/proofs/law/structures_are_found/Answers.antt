use Rattle.acpi_tables.proofs.Tiling.{are_found}
use Rattle.acpi_tables.proofs.law.structures_are_found.Goals as goal

pub returns : goal.returns
returns c = are_found
