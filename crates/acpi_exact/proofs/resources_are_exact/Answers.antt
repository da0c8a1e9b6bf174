use Rattle.acpi_exact.proofs.Givens.{resources_are_exact}
use Rattle.acpi_exact.proofs.resources_are_exact.Goals as goal

pub returns : goal.returns
returns c = resources_are_exact
